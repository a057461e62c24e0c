-- Lists and their parts.
use Rattle.upd_correct.proofs.Common.{◌≡◌, ℕ, zero, suc, ◌+◌, ◌-◌, ◌<◌, List, [], ◌∷◌, ◌++◌, map, length, take, drop, get_or, refl, sym, ap, ◌∙◌, arith}
use Rattle.upd_correct.proofs.Common.{append_assoc, length-drop, map-append, take_all, take_more}

pub mapped_more : {X A : Type 0} (f : X → A) (front : List A) (xs : List X) (i : ℕ) (d : X) → i < length xs
    → (front ++ map f (take i xs)) ++ f (get_or xs i d) ∷ [] ≡ front ++ map f (take (i + 1) xs)
mapped_more f front xs i d within =
    append_assoc front (map f (take i xs)) (f (get_or xs i d) ∷ [])
    ∙ ap (λ x. front ++ x) (sym (ap (map f) (take_more xs i d within) ∙ map-append f (take i xs) (get_or xs i d ∷ [])))

pub taken_count : {X A : Type 0} (f : X → A) (xs : List X) (i : ℕ) → i < length xs → length (map f (take i xs)) ≡ i
taken_count f [] i within = absurd (omega (arith, within))
taken_count f (x ∷ xs) zero within = refl
taken_count f (x ∷ xs) (suc i) within = ap suc (taken_count f xs i (omega (arith, within)))

-- the rest of a list as a range
pub rest_of : {X : Type 0} (n : ℕ) (xs : List X) → take (length xs - n) (drop n xs) ≡ drop n xs
rest_of n xs = take_all (length xs - n) (drop n xs) (omega (arith, length-drop n xs))
