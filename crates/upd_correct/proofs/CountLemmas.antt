-- A listing that is read has no more cards than a library may have.
use Rattle.upd_correct.proofs.Common.{◌≡◌, ℕ, ◌≤◌, nat_lt, Bool, true, false, List, [], ◌∷◌, length, Option, Some, None, is_some, refl, arith, nat_tests}
use Rattle.upd_correct.proofs.Common.{filter_map, MAX_CARDS, ListedView, listed_card, listed_name}
use Rattle.upd_correct.specs.ListedDeck.{bad_line, cards_listed}

kept_few : (lines : List (List ℕ)) → length (filter_map listed_card lines) ≤ length lines
kept_few [] = arith_zero
  where
    arith_zero : 0 ≤ 0
    arith_zero = omega arith
kept_few (line ∷ lines) = go (listed_card line) refl (kept_few lines)
  where
    go : (o : Option ListedView) → listed_card line ≡ o → length (filter_map listed_card lines) ≤ length lines
        → length (filter_map listed_card (line ∷ lines)) ≤ length (line ∷ lines)
    go None e few = rw e (omega (arith, few))
    go (Some c) e few = rw e (omega (arith, few))

pub cards_few : (lines : List (List ℕ)) → bad_line lines ≡ None → length (cards_listed lines) ≤ MAX_CARDS
cards_few [] e = absurd (cc)
cards_few (head ∷ lines) e = by (is_some (listed_name head)) refl (nat_lt MAX_CARDS (length lines)) refl
  where
    small : nat_lt MAX_CARDS (length lines) ≡ false → length (filter_map listed_card lines) ≤ MAX_CARDS
    small f = let few = kept_few lines in let most : length lines ≤ MAX_CARDS = grind (arith, nat_tests) in omega (arith, few, most)

    by : (a : Bool) → is_some (listed_name head) ≡ a → (b : Bool) → nat_lt MAX_CARDS (length lines) ≡ b → length (filter_map listed_card lines) ≤ MAX_CARDS
    by true f false g = small g
    by true f true g = let bad = rw (f, g) at e in absurd (cc)
    by false f b g = let bad = rw f at e in absurd (cc)
