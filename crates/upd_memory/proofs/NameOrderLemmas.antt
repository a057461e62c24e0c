-- References are the same where the order of the maps' keys says so.
use Rattle.upd_memory.proofs.Common.{◌≡◌, true, refl, ap, sym, ◌∙◌, nat_cmp_total, nat_list_cmp_total, CmpEqualImpliesEq, IsTotalOrder, is_eq, Ordering, Less}
use Rattle.upd_memory.proofs.Common.{Equal, Greater, is_same-is_eq, by_name, CardRef, same_ref}
use Rattle.std.proofs.lemmas.Cmp.{on_total, then_total}
use Rattle.std.specs.Cmp.{eq_by_cmp_equiv}
use Rattle.upd_text.proofs.OrderLemmas.{by_name-exact}

pub same_by_order : (a b : CardRef) → same_ref a b ≡ is_eq (by_name a b)
same_by_order a b = is_same-is_eq a b

pub refs_total : IsTotalOrder by_name
refs_total = then_total (on_total (λ c. c.name) nat_list_cmp_total) (on_total (λ c. c.number) nat_cmp_total)

pub refs_exact : CmpEqualImpliesEq by_name
refs_exact a b same = (by_name-exact a b).0 same

pub one_by_order : (a b : CardRef) → is_eq (by_name a b) ≡ true → a ≡ b
one_by_order a b e = go (by_name a b) refl e
  where
    go : (o : Ordering) → by_name a b ≡ o → is_eq o ≡ true → a ≡ b
    go Less is e = absurd (cc)
    go Equal is e = refs_exact a b is
    go Greater is e = absurd (cc)

pub one_ref : (a b : CardRef) → same_ref a b ≡ true → a ≡ b
one_ref a b e = one_by_order a b (sym (same_by_order a b) ∙ e)

pub turned : (a b : CardRef) → is_eq (by_name a b) ≡ same_ref b a
turned a b = (eq_by_cmp_equiv refs_total).symm a b ∙ sym (same_by_order b a)

-- a row of a card is one of another where the cards are the same
pub alike : (card other row : CardRef) → same_ref other row ≡ true → same_ref card row ≡ is_eq (by_name card other)
alike card other row same = ap (same_ref card) (sym (one_ref other row same)) ∙ same_by_order card other
