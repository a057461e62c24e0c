-- A loop that adds, for each element, what comes of it.
use Rattle.upd_core.proofs.Common.{◌≡◌, ℕ, ◌+◌, ◌<◌, List, ◌∷◌, ◌++◌, length, drop, get_or, ap, sym, ◌∙◌, append_assoc, flat_map, drop_more}

-- the step of the loop at the element x
pub flat_more : {X Y : Type 0} (f : X → List Y) (xs : List X) (i : ℕ) (d x : X) (found now whole : List Y) → i < length xs → x ≡ get_or xs i d →
    now ≡ found ++ f x →
    found ++ flat_map f (drop i xs) ≡ whole → now ++ flat_map f (drop (i + 1) xs) ≡ whole
flat_more f xs i d x found now whole within read is so_far =
    let next : drop i xs ≡ x ∷ drop (i + 1) xs = drop_more xs i d within ∙ ap (λ t. t ∷ drop (i + 1) xs) (sym read) in
    ap (λ t. t ++ flat_map f (drop (i + 1) xs)) is ∙ append_assoc found (f x) (flat_map f (drop (i + 1) xs)) ∙ sym (ap (λ t. found ++ flat_map f t) next)
    ∙ so_far
