-- What a list is cut into at the first element that passes a test.
use Rattle.std.proofs.Common.{◌≡◌, ℕ, ◌+◌, ◌-◌, suc, Bool, true, false, cond, not, nat_lt, ◌||◌, List, [], ◌∷◌, length, take, drop, Option, Some, None, IfNone}
use Rattle.std.proofs.Common.{is_some, position, sym, ap, ◌∙◌, refl, arith}
use Rattle.std.specs.List.{list_any, position_or_len, slice_split, onto_first}
use Rattle.std.proofs.lemmas.Bool.Decides.{nat_tests}
use Rattle.std.proofs.lemmas.List.Splits.{slice_split_first}
use Rattle.std.proofs.lemmas.Grind.{common_steps}

-- an element is found where some passes
is_some-position : {A : Type 0} (test : A → Bool) (xs : List A) → is_some (position test xs) ≡ list_any test xs
is_some-position test [] = refl
is_some-position test (x ∷ xs) = more (test x) (position_or_len test xs) (length xs) (list_any test xs) (is_some-position test xs)
  where
    more : (here : Bool) (at n : ℕ) (later : Bool) → is_some (cond (nat_lt at n) (Some at) None) ≡ later
        → is_some (cond (nat_lt (cond (not here) (1 + at) 0) (suc n)) (Some (cond (not here) (1 + at) 0)) None) ≡ (here || later)
    more here at n later e = grind (arith, nat_tests)

pub found_place : {A : Type 0} (test : A → Bool) (xs : List A) (at : ℕ) → Some at ≡ position test xs → true ≡ list_any test xs
found_place test xs at e = ap is_some e ∙ is_some-position test xs

pub missed_place : {A B : Type 0} (test : A → Bool) (xs : List A) (r : Option B) → r ≡ None → None ≡ position test xs → is_some r ≡ list_any test xs
missed_place test xs r none e = ap is_some none ∙ ap is_some e ∙ is_some-position test xs

-- a list in which no element passes stays in one piece
slice_split-none : {A : Type 0} (test : A → Bool) (xs : List A) → list_any test xs ≡ false → slice_split test xs ≡ xs ∷ []
slice_split-none test [] none = refl
slice_split-none test (x ∷ xs) none = more (test x) (list_any test xs) none (slice_split-none test xs)
  where
    more : (here later : Bool) → (here || later) ≡ false → (later ≡ false → slice_split test xs ≡ xs ∷ [])
        → cond here ([] ∷ slice_split test xs) (onto_first x (slice_split test xs)) ≡ (x ∷ xs) ∷ []
    more true later none whole = cc
    more false later none whole = ap (onto_first x) (whole none)

pub whole_piece : {A B : Type 0} (test : A → Bool) (xs : List A) (r : Option B) → r ≡ None → None ≡ position test xs → IfNone r (slice_split test xs ≡ xs ∷ [])
whole_piece test xs r none e = rw none (slice_split-none test xs (sym (is_some-position test xs) ∙ sym (ap is_some e)))

pub first_piece : (test : ℕ → Bool) (xs : List ℕ) (at : ℕ) → Some at ≡ position test xs
    → slice_split test xs ≡ take at xs ∷ slice_split test (take (length xs - (at + 1)) (drop (at + 1) xs))
first_piece test xs at e = grind (arith, common_steps, nat_tests, slice_split_first test xs 0)
