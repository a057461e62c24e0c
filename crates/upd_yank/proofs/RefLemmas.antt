-- Sets and maps by card reference.
use Rattle.upd_yank.proofs.Common.{◌≡◌, Bool, true, false, ◌||◌, List, cond, if◌then◌else◌, None, Some, refl, ap, sym, ◌∙◌, list_any, update_all, CardRef}
use Rattle.upd_yank.proofs.Common.{same_ref, same_ref_is, same_ref_own, kept_status}
use Rattle.std.specs.BTreeMap as tree
use Rattle.std.specs.BTreeMap.{BTreeMap, is_at}
use Rattle.std.specs.BTreeSet as sorted
use Rattle.std.specs.BTreeSet.{BTreeSet}
use Rattle.std.specs.Map.{lookup}
use Rattle.std.specs.Ordering.{eq_by_cmp, is_eq}
use Rattle.upd_text.proofs.OrderLemmas.{is_same-is_eq}
use Rattle.upd_text.specs.contracts.card_ref.CardRefOrd.TheImpl as order

pub same_ref_sym : (a b : CardRef) → same_ref a b ≡ same_ref b a
same_ref_sym a b = go (same_ref a b) refl (same_ref b a) refl
  where
    go : (x : Bool) → same_ref a b ≡ x → (y : Bool) → same_ref b a ≡ y → same_ref a b ≡ same_ref b a
    go true e true f = e ∙ sym f
    go false e false f = e ∙ sym f
    go true e false f = absurd (let p = same_ref_is a b e in let q = ap (λ x. same_ref x a) p in let r = same_ref_own a in cc)
    go false e true f = absurd (let p = same_ref_is b a f in let q = ap (λ x. same_ref x b) p in let r = same_ref_own b in cc)

-- the order of references is equal where they are the same
pub same_by_order : (a b : CardRef) → is_eq ((order.ghosts).cmp a b) ≡ same_ref a b
same_by_order a b = sym (is_same-is_eq a b)

pub any_by_order : (s : BTreeSet CardRef) (r : CardRef) → list_any (same_ref r) s.keys ≡ sorted.contains (order.ghosts).cmp s r
any_by_order s r = ap (λ (test : CardRef → Bool). list_any test s.keys) (λ i u. sym (same_by_order r u) i)

pub status_by_order : (m : BTreeMap CardRef Bool) (r : CardRef) → kept_status m.entries r ≡ tree.get (order.ghosts).cmp m r
status_by_order m r = ap (λ (test : CardRef → Bool). lookup test m.entries) (λ i u. sym (same_by_order r u) i)

-- the statuses in these rows, where the map was made of them
pub status_of_rows : (rows : List (CardRef × Bool)) (m : BTreeMap CardRef Bool) (r : CardRef) →
    tree.get (order.ghosts).cmp m r ≡ update_all (eq_by_cmp (order.ghosts).cmp) (λ _. None) rows r →
    kept_status m.entries r ≡ update_all same_ref (λ _. None) rows r
status_of_rows rows m r is = status_by_order m r ∙ is
    ∙ ap (λ (test : CardRef → CardRef → Bool). update_all test (λ _. None) rows r) (λ i k u. same_by_order k u i)

-- the statuses once that of k is v
pub put_status : (m n : BTreeMap CardRef Bool) (k : CardRef) (v : Bool) (r : CardRef) →
    tree.get (order.ghosts).cmp n r ≡ cond (is_at ((order.ghosts).cmp k) r) (Some v) (tree.get (order.ghosts).cmp m r) →
    kept_status n.entries r ≡ (if same_ref k r then Some v else kept_status m.entries r)
put_status m n k v r is = status_by_order n r ∙ is ∙ λ i. cond (same_by_order k r i) (Some v) (sym (status_by_order m r) i)

-- the references once k is among them
pub add_ref : (s t : BTreeSet CardRef) (k r : CardRef) →
    sorted.contains (order.ghosts).cmp t r ≡ cond (is_at ((order.ghosts).cmp k) r) true (sorted.contains (order.ghosts).cmp s r) →
    list_any (same_ref r) t.keys ≡ (list_any (same_ref r) s.keys || same_ref r k)
add_ref s t k r is =
    any_by_order t r ∙ is ∙ (λ i. cond (same_by_order k r i) true (sym (any_by_order s r) i))
    ∙ go (same_ref k r) (list_any (same_ref r) s.keys) ∙ ap (λ b. list_any (same_ref r) s.keys || b) (same_ref_sym k r)
  where
    go : (a b : Bool) → cond a true b ≡ (b || a)
    go true true = refl
    go true false = refl
    go false true = refl
    go false false = refl
