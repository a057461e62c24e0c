-- Lists with the same elements are equally long.
use Rattle.upd_keep.proofs.Common.{◌≡◌, true, List, [], ◌∷◌, length, refl, sym, ◌∙◌, arith, count_by, IsSame, count_cons}

count_all : {A : Type 0} (xs : List A) → count_by (λ _. true) xs ≡ length xs
count_all [] = refl
count_all (x ∷ xs) = let rest = count_all xs in omega (arith, count_cons (λ _. true) x xs, rest)

pub same_length : {A : Type 0} {xs ys : List A} → IsSame xs ys → length xs ≡ length ys
same_length {A} {xs} {ys} same = sym (count_all xs) ∙ same.passes (λ _. true) ∙ count_all ys
