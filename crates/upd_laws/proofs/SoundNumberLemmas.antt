-- The next number of an ident.
use Rattle.upd_laws.proofs.Common.{◌≡◌, ℕ, ◌+◌, ◌<◌, cond, List, [], ◌∷◌, refl, sym, ap, ◌∙◌, arith, ne_eqb, sum_by-cons, ◌==◌, count_by, IsTrue}
use Rattle.upd_laws.proofs.Common.{AllByRecursion, AllZip, Entry, new_card, CardView, LibraryView, all_cards, is_held, IsNext}
use Rattle.upd_laws.proofs.SoundListLemmas.{is_same_number, all_weaker, HasMore, more_all, more_count, zip_all, zip_count}
use Rattle.upd_laws.proofs.SoundCardLemmas.{IsEntered}
use Rattle.upd_laws.proofs.SoundYankLemmas.{same_ident, same_number_of}
use Rattle.upd_laws.proofs.SoundEditLemmas.{IsNew}

count_none : (z : ℕ) (cards : List CardView) → AllByRecursion (λ c. c.ident ≡ z → ⊥) cards → count_by (λ c. c.ident == z) cards ≡ 0
count_none z [] all = refl
count_none z (c ∷ cards) all =
    let one : CardView → ℕ = λ c. cond (c.ident == z) 1 0 in
    sum_by-cons one c cards ∙ (rw (ne_eqb c.ident z all.0, count_none z cards all.1) refl)

-- an ident that no card is of
pub next_first : (z : ℕ) (l : LibraryView) → AllByRecursion (λ c. c.ident ≡ z → ⊥) (all_cards l) → IsNext z 1 l
next_first z l all =
    record {
      counted = let e = count_none z (all_cards l) all in omega arith;
      above = all_weaker (λ (c : CardView). c.ident ≡ z → ⊥) _ (all_cards l) (λ c h e. absurd (h e)) all;
    }

-- a card with the next number of its ident
pub next_own : (z n : ℕ) (c : CardView) (l m : LibraryView) → HasMore c (all_cards l) (all_cards m) → c.ident ≡ z → c.number ≡ n → IsNext z n l
    → IsNext z (n + 1) m
next_own z n c l m more own number next = record {
  counted =
      let e = more_count (λ (b : CardView). b.ident == z) c (all_cards l) (all_cards m) more in
      let f = is_same_number c.ident z own in
      let g = rw f at e in
      let h = next.counted in
      omega arith;
  above =
      more_all (λ (b : CardView). b.ident ≡ z → b.number < n + 1) c (all_cards l) (all_cards m) more (λ e. omega arith)
      (all_weaker (λ (b : CardView). b.ident ≡ z → b.number < n) _ (all_cards l) (λ b h e. let k = h e in omega arith) next.above);
}

-- a card of another ident
pub next_other : (z n : ℕ) (c : CardView) (l m : LibraryView) → HasMore c (all_cards l) (all_cards m) → (c.ident ≡ z → ⊥) → IsNext z n l → IsNext z n m
next_other z n c l m more other next = record {
  counted =
      let e = more_count (λ (b : CardView). b.ident == z) c (all_cards l) (all_cards m) more in
      let f = ne_eqb c.ident z other in
      let g = rw f at e in
      let h = next.counted in
      omega arith;
  above = more_all (λ (b : CardView). b.ident ≡ z → b.number < n) c (all_cards l) (all_cards m) more (λ e. absurd (other e)) next.above;
}

-- entries on some cards
pub next_entered : (z n : ℕ) (e : Entry) (l m : LibraryView) → AllZip (IsEntered e) (all_cards l) (all_cards m) → IsNext z n l → IsNext z n m
next_entered z n e l m zip next = record {
  counted =
      next.counted ∙ ap (λ k. k + 1)
      (sym (zip_count (IsEntered e) (λ (c : CardView). c.ident == z) (all_cards l) (all_cards m) (λ x y r. ap (λ a. a == z) (same_ident e x y r)) zip));
  above =
      zip_all (IsEntered e) (λ (c : CardView). c.ident ≡ z → c.number < n) (λ c. c.ident ≡ z → c.number < n) (all_cards l) (all_cards m)
      (λ x y r h own. rw (same_number_of e x y r) (h (sym (same_ident e x y r) ∙ own))) zip next.above;
}

-- the next card of a held ident is new
pub next_new : (z n : ℕ) (text : List ℕ) (targets : _) (l : LibraryView) → IsTrue (is_held l.idents z) → IsNext z n l → IsNew (new_card z n text targets) l
next_new z n text targets l held next = record {
  held = (held, (held, tt));
  begins = (refl, refl);
  key =
      all_weaker (λ (c : CardView). c.ident ≡ z → c.number < n) _ (all_cards l)
      (λ c h same. let a = ap (λ (p : ℕ × ℕ). p.0) same in let b = ap (λ (p : ℕ × ℕ). p.1) same in let k = h (sym a) in absurd (omega arith)) next.above;
}
