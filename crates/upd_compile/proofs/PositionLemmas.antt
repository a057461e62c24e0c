-- Decks found by their positions.
use Rattle.upd_compile.proofs.Common.{◌≡◌, ℕ, zero, suc, add-one, ◌+◌, ◌==◌, Bool, true, false, if◌then◌else◌, cond, List, [], ◌∷◌, drop, Option, Some, None}
use Rattle.upd_compile.proofs.Common.{refl, sym, slice_get, option_and_then, option_map, find, Ident, ActivesView, index_from, is_common, held_named}
use Rattle.upd_compile.proofs.Common.{kind_and_age, position_aged, position_named, common_named, deck_aged}

-- the element after n others, and those after it
at_front : {A : Type 0} (all xs : List A) (x : A) (n : ℕ) → drop n all ≡ x ∷ xs → slice_get all n ≡ Some x
at_front [] xs x zero e = cc
at_front [] xs x (suc n) e = cc
at_front (y ∷ ys) xs x zero e = cc
at_front (y ∷ ys) xs x (suc n) e = at_front ys xs x n e

behind_front : {A : Type 0} (all xs : List A) (x : A) (n : ℕ) → drop n all ≡ x ∷ xs → drop (suc n) all ≡ xs
behind_front [] xs x zero e = cc
behind_front [] xs x (suc n) e = cc
behind_front (y ∷ ys) xs x zero e = cc
behind_front (y ∷ ys) xs x (suc n) e = behind_front ys xs x n e

-- what is found after n elements is at its index
find-from : {A : Type 0} (p : A → Bool) (n : ℕ) (xs all : List A) → drop n all ≡ xs → find p xs ≡ option_and_then (slice_get all) (index_from p n xs)
find-from p n [] all behind = refl
find-from p n (x ∷ xs) all behind =
    let later = find-from p (n + 1) xs all (rw add-one (behind_front all xs x n behind)) in
    elim (p x) as (λ b. cond b (Some x) (find p xs) ≡ option_and_then (slice_get all) (if b then Some n else index_from p (n + 1) xs))
    [ true ↦ sym (at_front all xs x n behind) | false ↦ later ]

pub deck_aged-position : (age : ℕ) (a : ActivesView) → deck_aged age a ≡ option_and_then (slice_get a.decks) (position_aged age a.decks)
deck_aged-position age a = find-from (λ d. d.ident == age) 0 a.decks a.decks refl

pub common_named-position : (name : List ℕ) (a : ActivesView) → common_named name a ≡ option_and_then (slice_get a.decks) (position_named name a)
common_named-position name a = at (held_named name a.idents)
  where
    of_common : (b : Bool) (age : ℕ)
        → (if b then deck_aged age a else None) ≡ option_and_then (slice_get a.decks) (if b then position_aged age a.decks else None)
    of_common true age = deck_aged-position age a
    of_common false age = refl

    at : (held : Option Ident) → option_and_then (λ i. if is_common i.kind then deck_aged i.age a else None) held
        ≡ option_and_then (slice_get a.decks) (option_and_then (λ i. if is_common i.0 then position_aged i.1 a.decks else None) (option_map kind_and_age held))
    at None = refl
    at (Some i) = of_common (is_common i.kind) i.age
