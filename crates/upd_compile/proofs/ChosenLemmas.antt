-- Decks chosen by flags.
use Rattle.upd_compile.proofs.Common.{◌≡◌, Bool, ◌||◌, List, [], ◌∷◌, map, refl, ap, zip}

-- the disjunction of three tests
pub any-map : {A : Type 0} (f g h : A → Bool) (xs : List A)
    → map (λ each. each.0.0 || each.0.1 || each.1) (zip (zip (map f xs) (map g xs)) (map h xs)) ≡ map (λ x. f x || g x || h x) xs
any-map f g h [] = refl
any-map f g h (x ∷ xs) = ap (λ bs. (f x || g x || h x) ∷ bs) (any-map f g h xs)
