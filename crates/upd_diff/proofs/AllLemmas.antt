-- What holds of all elements of lists that are made of others.
use Rattle.upd_diff.proofs.Common.{List, [], ◌∷◌, ◌++◌, map, flat_map, AllByRecursion}

pub all_joined : {A : Type 0} (P : A → Type 0) (xs ys : List A) → AllByRecursion P xs → AllByRecursion P ys → AllByRecursion P (xs ++ ys)
all_joined P [] ys a b = b
all_joined P (x ∷ xs) ys a b = (a.0, all_joined P xs ys a.1 b)

pub all_flat : {A B : Type 0} (P : B → Type 0) (g : A → List B) (xs : List A) → AllByRecursion (λ x. AllByRecursion P (g x)) xs
    → AllByRecursion P (flat_map g xs)
all_flat P g [] all = tt
all_flat P g (x ∷ xs) all = all_joined P (g x) (flat_map g xs) all.0 (all_flat P g xs all.1)

pub each_flat : {A B : Type 0} (P : B → Type 0) (g : A → List B) → ((x : A) → AllByRecursion P (g x)) → (xs : List A) → AllByRecursion P (flat_map g xs)
each_flat P g each [] = tt
each_flat P g each (x ∷ xs) = all_joined P (g x) (flat_map g xs) (each x) (each_flat P g each xs)

pub each_map : {A B : Type 0} (P : B → Type 0) (g : A → B) → ((x : A) → P (g x)) → (xs : List A) → AllByRecursion P (map g xs)
each_map P g each [] = tt
each_map P g each (x ∷ xs) = (each x, each_map P g each xs)
