-- A list changed in place, element by element.
use Rattle.upd_core.proofs.Common.{◌≡◌, ℕ, ◌+◌, ◌<◌, List, [], ◌∷◌, ◌++◌, map, length, take, drop, get_or, set, ap, sym, ◌∙◌, arith, append_assoc, length-map}
use Rattle.upd_core.proofs.Common.{length-take-le, drop_more}
use Rattle.std.proofs.lemmas.List.{map_more, set_at, get_or_at}

-- the next element x of a list whose elements so far were changed by f
pub map_over_more : {A : Type 0} (f : A → A) (xs ys : List A) (i : ℕ) (d x y : A) → i < length xs → ys ≡ map f (take i xs) ++ drop i xs → x ≡ get_or ys i d →
    y ≡ f x → set ys i y ≡ map f (take (i + 1) xs) ++ drop (i + 1) xs
map_over_more f xs ys i d x y within so_far read changed =
    let front : length (map f (take i xs)) ≡ i = length-map (take i xs) f ∙ length-take-le i xs (omega arith) in
    let split : ys ≡ map f (take i xs) ++ get_or xs i d ∷ drop (i + 1) xs = so_far ∙ ap (λ t. map f (take i xs) ++ t) (drop_more xs i d within) in
    let same : x ≡ get_or xs i d = read ∙ ap (λ t. get_or t i d) split ∙ get_or_at (map f (take i xs)) (get_or xs i d) (drop (i + 1) xs) d i front in
    ap (λ t. set t i y) split ∙ set_at (map f (take i xs)) (get_or xs i d) (drop (i + 1) xs) y i front
    ∙ ap (λ t. map f (take i xs) ++ t ∷ drop (i + 1) xs) (changed ∙ ap f same)
    ∙ sym (append_assoc (map f (take i xs)) (f (get_or xs i d) ∷ []) (drop (i + 1) xs)) ∙ ap (λ t. t ++ drop (i + 1) xs) (sym (map_more f xs i d within))
