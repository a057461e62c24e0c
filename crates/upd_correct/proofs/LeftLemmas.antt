-- Cards and decks that are left by a run.
use Rattle.upd_correct.proofs.Common.{◌≡◌, ℕ, ◌-◌, ◌<◌, ◌≤◌, List, [], ◌∷◌, length, take, drop, get_or, sym, ap, ◌∙◌, subst, arith, Target, CardView, AreLeft}
use Rattle.upd_correct.proofs.Common.{Empty}
use Rattle.std.proofs.lemmas.List.{drop_all}
use Rattle.upd_correct.proofs.ListLemmas.{rest_of}

-- at the end of both lists
pub none_left : (taken live : List Target) (d z last : ℕ) (rest news : List CardView) (i : ℕ) → length rest ≡ 0 → length news ≤ i
    → AreLeft taken live d z last rest (drop i news)
none_left taken live d z last [] news i none end = subst (AreLeft taken live d z last []) (sym (drop_all i news end)) Empty
none_left taken live d z last (c ∷ rest) news i none end = absurd (omega (arith, none))

-- a list of a first element and the rest
pub first_and_more : {A : Type 0} (xs : List A) (d : A) → 0 < length xs → xs ≡ get_or xs 0 d ∷ take (length xs - 1) (drop 1 xs)
first_and_more [] d some = absurd (omega (arith, some))
first_and_more (y ∷ xs) d some = ap (λ r. y ∷ r) (sym (rest_of 1 (y ∷ xs)))

pub split_first : {A : Type 0} (xs : List A) (x : A) → 0 < length xs → x ≡ get_or xs 0 x → xs ≡ x ∷ take (length xs - 1) (drop 1 xs)
split_first xs x some is = first_and_more xs x some ∙ ap (λ f. f ∷ take (length xs - 1) (drop 1 xs)) (sym is)
