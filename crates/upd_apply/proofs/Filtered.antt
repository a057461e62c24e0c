-- A filter in a loop: what is found so far, and what remains.
use Rattle.upd_apply.proofs.Common.{◌≡◌, ℕ, ◌+◌, ◌<◌, Bool, true, false, if◌then◌else◌, List, [], ◌∷◌, ◌++◌, map, length, drop, get_or, ap, sym, ◌∙◌}
use Rattle.upd_apply.proofs.Common.{append_assoc, filter, drop_more}

one_more : {X Y : Type 0} (f : X → Y) (test : X → Bool) (x : X) (xs : List X) (found now : List Y) (b : Bool)
    → b ≡ test x → now ≡ (if b then found ++ f x ∷ [] else found)
    → now ++ map f (filter test xs) ≡ found ++ map f (if b then x ∷ filter test xs else filter test xs)
one_more f test x xs found now true e is = ap (λ t. t ++ map f (filter test xs)) is ∙ append_assoc found (f x ∷ []) (map f (filter test xs))
one_more f test x xs found now false e is = ap (λ t. t ++ map f (filter test xs)) is

-- the step of the loop at an element x, where b is the result of the test
pub filter_more : {X Y : Type 0} (f : X → Y) (test : X → Bool) (xs : List X) (i : ℕ) (x : X) (found now whole : List Y)
    (b : Bool) → i < length xs → x ≡ get_or xs i x → b ≡ test x → now ≡ (if b then found ++ f x ∷ [] else found)
    → found ++ map f (filter test (drop i xs)) ≡ whole → now ++ map f (filter test (drop (i + 1) xs)) ≡ whole
filter_more f test xs i x found now whole b within read says is so_far =
    let next : drop i xs ≡ x ∷ drop (i + 1) xs = drop_more xs i x within ∙ ap (λ t. t ∷ drop (i + 1) xs) (sym read) in
    one_more f test x (drop (i + 1) xs) found now b says is
    ∙ ap (λ t. found ++ map f (if t then x ∷ filter test (drop (i + 1) xs) else filter test (drop (i + 1) xs))) says
    ∙ sym (ap (λ t. found ++ map f (filter test t)) next) ∙ so_far
