use Rattle.upd_compile.proofs.Common.{◌≡◌, Bool, true, false, not, ◌&&◌, if◌then◌else◌, List, [], ◌∷◌, refl, ap, filter, flat_map, MAX_DEPTH, is_common_deck}
use Rattle.upd_compile.proofs.Common.{written, walk}
use Rattle.upd_compile.proofs.compiled_file.quick_file_of_no_decks_is_empty.Goals as goal

none_first : {A : Type 0} (x : A) (later : List A) (b : Bool) → later ≡ [] → (if b && false then x ∷ later else later) ≡ []
none_first x later true none = none
none_first x later false none = none

-- a test that fails for all leaves none
none_left : {A : Type 0} (test : A → Bool) (xs : List A) → filter (λ x. test x && false) xs ≡ []
none_left test [] = refl
none_left test (x ∷ xs) = none_first x (filter (λ x. test x && false) xs) (test x) (none_left test xs)

pub returns : goal.returns
returns c before after =
    ap (λ decks. written after.idents (flat_map (walk MAX_DEPTH after) decks)) (none_left (λ d. not (is_common_deck after d)) after.decks)
