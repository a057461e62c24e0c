-- Lists that have the same elements at each key have the same elements.
use Rattle.std.proofs.Common.{◌≡◌, ℕ, zero, suc, ◌+◌, ◌≤◌, Bool, true, false, not, cond, List, [], ◌∷◌, length, refl, ap, sym, ◌∙◌, subst, arith}
use Rattle.std.proofs.lemmas.List.Filters.{length-filter_both, sum_by-filter_both}
use Rattle.std.specs.List.{count_by, filter}
use Rattle.upd_records.proofs.CountLemmas.{count_cons, same_filter, same_of}
use Rattle.upd_records.specs.Rows.{IsSame}

-- how many pass a test, with another test and without
pub count_split : {A : Type 0} (test has : A → Bool) (xs : List A)
    → count_by test (filter has xs) + count_by test (filter (λ x. not (has x)) xs) ≡ count_by test xs
count_split test has xs = sum_by-filter_both has (λ x. not (has x)) (λ x. refl) (λ x. cond (test x) 1 0) xs

-- two tests, one after the other
pub filter_twice : {A : Type 0} (f g : A → Bool) (xs : List A) → filter f (filter g xs) ≡ filter g (filter f xs)
filter_twice f g [] = refl
filter_twice {A} f g (x ∷ xs) = go (f x) (g x) refl refl (filter_twice f g xs)
  where
    go : (a b : Bool) → f x ≡ a → g x ≡ b → filter f (filter g xs) ≡ filter g (filter f xs)
        → filter f (cond b (x ∷ filter g xs) (filter g xs)) ≡ filter g (cond a (x ∷ filter f xs) (filter f xs))
    go true true e h rest = ap (λ t. cond t (x ∷ filter f (filter g xs)) (filter f (filter g xs))) e ∙ ap (λ ys. x ∷ ys) rest
        ∙ sym (ap (λ t. cond t (x ∷ filter g (filter f xs)) (filter g (filter f xs))) h)
    go true false e h rest = rest ∙ sym (ap (λ t. cond t (x ∷ filter g (filter f xs)) (filter g (filter f xs))) h)
    go false true e h rest = ap (λ t. cond t (x ∷ filter f (filter g xs)) (filter f (filter g xs))) e ∙ rest
    go false false e h rest = rest

module _ {K A : Type 0} (has : K → A → Bool) (key : A → K) (itself : (x : A) → has (key x) x ≡ true) where
  abbrev AreEach : List A → List A → Type 0
  AreEach xs ys = (k : K) → IsSame (filter (has k) xs) (filter (has k) ys)

  abbrev others : A → List A → List A
  others x ys = filter (λ y. not (has (key x) y)) ys

  nothing : (ys : List A) → AreEach [] ys → [] ≡ ys
  nothing [] each = refl
  nothing (y ∷ ys) each =
      absurd (let none : 0 ≡ count_by (λ x. true) (y ∷ filter (has (key y)) ys) =
      (each (key y)).passes (λ x. true) ∙ ap (λ b. count_by (λ x. true) (cond b (y ∷ filter (has (key y)) ys) (filter (has (key y)) ys)))
      (itself y) in
      let one = count_cons (λ x. true) y (filter (has (key y)) ys) in omega (arith, none, one))

  front : (x : A) (xs : List A) (j : K) → filter (has j) (others x xs) ≡ others x (filter (has j) (x ∷ xs))
  front x xs j = filter_twice (has j) (λ y. not (has (key x) y)) xs ∙ sym (twice (has j x))
    where
      twice : (b : Bool) → others x (cond b (x ∷ filter (has j) xs) (filter (has j) xs)) ≡ others x (filter (has j) xs)
      twice true = ap (λ b. cond (not b) (x ∷ others x (filter (has j) xs)) (others x (filter (has j) xs))) (itself x)
      twice false = refl

  each_other : (x : A) (xs ys : List A) → AreEach (x ∷ xs) ys → AreEach (others x xs) (others x ys)
  each_other x xs ys each j = subst (λ zs. IsSame zs (filter (has j) (others x ys))) (sym (front x xs j))
      (subst (IsSame (others x (filter (has j) (x ∷ xs)))) (sym (filter_twice (has j) (λ y. not (has (key x) y)) ys))
      (same_filter (λ y. not (has (key x) y)) (each j)))

  joined : (x : A) (xs ys : List A) → AreEach (x ∷ xs) ys → IsSame (others x xs) (others x ys) → IsSame (x ∷ xs) ys
  joined x xs ys each rest = record {
    passes = λ test.
        sym (count_split test (has (key x)) (x ∷ xs)) ∙ ap (λ c. c + count_by test (others x (x ∷ xs))) ((each (key x)).passes test)
        ∙ ap (λ c. count_by test (filter (has (key x)) ys) + c) (first test) ∙ count_split test (has (key x)) ys;
  }
    where
      first : (test : A → Bool) → count_by test (others x (x ∷ xs)) ≡ count_by test (others x ys)
      first test = ap (λ b. count_by test (cond (not b) (x ∷ others x xs) (others x xs))) (itself x) ∙ rest.passes test

  same_within : (n : ℕ) (xs ys : List A) → length xs ≤ n → AreEach xs ys → IsSame xs ys
  same_within n [] ys few each = same_of [] ys (nothing ys each)
  same_within zero (x ∷ xs) ys few each = absurd (grind (arith, few))
  same_within (suc n) (x ∷ xs) ys few each =
      let left = length-filter_both (has (key x)) (λ y. not (has (key x) y)) (λ y. refl) xs in
      joined x xs ys each (same_within n (others x xs) (others x ys) (grind (arith, few, left)) (each_other x xs ys each))

  pub same_by_key : (xs ys : List A) → ((k : K) → IsSame (filter (has k) xs) (filter (has k) ys)) → IsSame xs ys
  same_by_key xs ys each = same_within (length xs) xs ys (omega arith) each
