-- How many elements pass a test, in lists that are made of others.
use Rattle.std.proofs.Common.{◌≡◌, ◌+◌, Bool, true, false, cond, List, [], ◌∷◌, ◌++◌, map, refl, ap, sym, ◌∙◌, arith}
use Rattle.std.specs.Prelude.{◌&&◌}
use Rattle.std.specs.List.{count_by, filter, flat_map, AllByRecursion}
use Rattle.std.proofs.lemmas.List.Sums.{sum_by-append, sum_by-cons}
use Rattle.upd_records.specs.Rows.{IsSame}

pub count_cons : {A : Type 0} (test : A → Bool) (x : A) (xs : List A) → count_by test (x ∷ xs) ≡ cond (test x) 1 0 + count_by test xs
count_cons test x xs = sum_by-cons (λ y. cond (test y) 1 0) x xs

pub count_append : {A : Type 0} (test : A → Bool) (xs ys : List A) → count_by test (xs ++ ys) ≡ count_by test xs + count_by test ys
count_append test xs ys = sum_by-append (λ y. cond (test y) 1 0) xs ys

pub count_map : {A B : Type 0} (test : B → Bool) (f : A → B) (xs : List A) → count_by test (map f xs) ≡ count_by (λ x. test (f x)) xs
count_map test f [] = refl
count_map test f (x ∷ xs) =
    count_cons test (f x) (map f xs) ∙ ap (λ n. cond (test (f x)) 1 0 + n) (count_map test f xs) ∙ sym (count_cons (λ y. test (f y)) x xs)

pub count_filter : {A : Type 0} (test keep : A → Bool) (xs : List A) → count_by test (filter keep xs) ≡ count_by (λ x. keep x && test x) xs
count_filter test keep [] = refl
count_filter test keep (x ∷ xs) = go (keep x) (count_filter test keep xs) ∙ sym (count_cons (λ y. keep y && test y) x xs)
  where
    go : (b : Bool) → count_by test (filter keep xs) ≡ count_by (λ y. keep y && test y) xs → count_by test (cond b (x ∷ filter keep xs) (filter keep xs))
        ≡ cond (b && test x) 1 0 + count_by (λ y. keep y && test y) xs
    go true later = count_cons test x (filter keep xs) ∙ ap (λ n. cond (test x) 1 0 + n) later
    go false later = omega arith

-- ---- lists of the same elements in any order

pub same_of : {A : Type 0} (xs ys : List A) → xs ≡ ys → IsSame xs ys
same_of xs ys e = record { passes = λ test. ap (λ zs. count_by test zs) e }

pub same_trans : {A : Type 0} {xs ys zs : List A} → IsSame xs ys → IsSame ys zs → IsSame xs zs
same_trans a b = record { passes = λ test. a.passes test ∙ b.passes test }

pub same_append : {A : Type 0} {xs ys us vs : List A} → IsSame xs us → IsSame ys vs → IsSame (xs ++ ys) (us ++ vs)
same_append {xs = xs} {ys = ys} {us = us} {vs = vs} a b = record {
  passes = λ test. count_append test xs ys ∙ ap (λ n. n + count_by test ys) (a.passes test) ∙ ap (λ n. count_by test us + n) (b.passes test)
      ∙ sym (count_append test us vs);
}

pub same_map : {A B : Type 0} (f : A → B) {xs ys : List A} → IsSame xs ys → IsSame (map f xs) (map f ys)
same_map f {xs = xs} {ys = ys} a = record { passes = λ test. count_map test f xs ∙ a.passes (λ x. test (f x)) ∙ sym (count_map test f ys) }

pub same_filter : {A : Type 0} (keep : A → Bool) {xs ys : List A} → IsSame xs ys → IsSame (filter keep xs) (filter keep ys)
same_filter keep {xs = xs} {ys = ys} a = record {
  passes = λ test. count_filter test keep xs ∙ a.passes (λ x. keep x && test x) ∙ sym (count_filter test keep ys);
}

-- what is made of one element after the other, in two ways at once
pub same_woven : {Z A : Type 0} (P : Z → Type 0) (f g h : Z → List A) → ((z : Z) → P z → IsSame (f z ++ g z) (h z)) → (zs : List Z) → AllByRecursion P zs
    → IsSame (flat_map f zs ++ flat_map g zs) (flat_map h zs)
same_woven P f g h each [] all = same_of [] [] refl
same_woven P f g h each (z ∷ zs) all = record { passes = λ test. passes test ((same_woven P f g h each zs all.1).passes test) }
  where
    passes : (test : _ → Bool) → count_by test (flat_map f zs ++ flat_map g zs) ≡ count_by test (flat_map h zs)
        → count_by test ((f z ++ flat_map f zs) ++ (g z ++ flat_map g zs)) ≡ count_by test (h z ++ flat_map h zs)
    passes test rest =
        let here = sym (count_append test (f z) (g z)) ∙ (each z all.0).passes test in
        let later = sym (count_append test (flat_map f zs) (flat_map g zs)) ∙ rest in
        let whole = count_append test (f z ++ flat_map f zs) (g z ++ flat_map g zs) in
        let left = count_append test (f z) (flat_map f zs) in
        let right = count_append test (g z) (flat_map g zs) in
        let wanted = count_append test (h z) (flat_map h zs) in
        omega arith
