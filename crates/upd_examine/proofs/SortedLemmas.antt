-- Lists whose elements differ: in each order, and in the order of a sort.
use Rattle.upd_examine.proofs.Common.{◌≡◌, ℕ, zero, suc, ◌+◌, ◌<◌, ◌≤◌, Bool, true, false, cond, List, [], ◌∷◌, length, get_or, refl, sym, ap, ◌∙◌, subst}
use Rattle.upd_examine.proofs.Common.{arith, IsPermutation, CmpEqualImpliesEq, IsTotalOrder, count_by, AllByRecursion, IsSorted, is_eq, is_lt}
use Rattle.upd_examine.proofs.Common.{ordering_reverse, Ordering, Less, Equal, Greater, AreApart, count_cons, weaker}
use Rattle.std.proofs.Common.{add-one}
use Rattle.std.proofs.lemmas.List.Sorted.{sum_by-IsPermutation}

pub same_is : {A : Type 0} (R : A → A → Ordering) → CmpEqualImpliesEq R → (a b : A) → is_eq (R a b) ≡ true → a ≡ b
same_is R exact a b e = go (R a b) refl e
  where
    go : (o : Ordering) → R a b ≡ o → is_eq o ≡ true → a ≡ b
    go Less r e = absurd (cc)
    go Equal r e = exact a b r
    go Greater r e = absurd (cc)

pub itself : {A : Type 0} (R : A → A → Ordering) → IsTotalOrder R → (a : A) → R a a ≡ Equal
itself R order a = go (R a a) (order.antisymm a a)
  where
    go : (o : Ordering) → o ≡ ordering_reverse o → o ≡ Equal
    go Less e = absurd (cc)
    go Equal e = refl
    go Greater e = absurd (cc)

module _ {A : Type 0} (R : A → A → Ordering) (order : IsTotalOrder R) (exact : CmpEqualImpliesEq R) where
  abbrev same : A → A → Bool
  same a b = is_eq (R a b)

  same_own : (a : A) → same a a ≡ true
  same_own a = ap is_eq (itself R order a)

  -- ---- an element that no other is the same as is there once

  none_counted : (x : A) (ys : List A) → AllByRecursion (λ y. x ≡ y → ⊥) ys → count_by (same x) ys ≡ 0
  none_counted x [] all = refl
  none_counted x (y ∷ ys) all = count_cons (same x) y ys ∙ go (same x y) refl (none_counted x ys all.1)
    where
      go : (b : Bool) → same x y ≡ b → count_by (same x) ys ≡ 0 → cond (same x y) 1 0 + count_by (same x) ys ≡ 0
      go true e later = absurd (all.0 (same_is R exact x y e))
      go false e later = let none = ap {B = ℕ} (λ b. cond b 1 0) e in omega arith

  counted_once : (x : A) (ys : List A) → AreApart ys → count_by (same x) ys ≤ 1
  counted_once x [] apart = omega arith
  counted_once x (y ∷ ys) apart = go (same x y) refl (counted_once x ys apart.1)
    where
      go : (b : Bool) → same x y ≡ b → count_by (same x) ys ≤ 1 → count_by (same x) (y ∷ ys) ≤ 1
      go true e later =
          let one = ap {B = ℕ} (λ b. cond b 1 0) e in
          let here = count_cons (same x) y ys in
          let none = none_counted x ys (weaker ys (λ z ne f. ne (sym (same_is R exact x y e) ∙ f)) apart.0) in
          omega arith
      go false e later =
          let one = ap {B = ℕ} (λ b. cond b 1 0) e in
          let here = count_cons (same x) y ys in
          omega arith

  all_differ : (x : A) (ys : List A) → count_by (same x) ys ≡ 0 → AllByRecursion (λ y. x ≡ y → ⊥) ys
  all_differ x [] none = tt
  all_differ x (y ∷ ys) none =
      let here = count_cons (same x) y ys in (
        (λ e.
            let yes : same x y ≡ true = subst (λ z. same x z ≡ true) e (same_own x) in
            let one = ap {B = ℕ} (λ b. cond b 1 0) yes in
            absurd (omega arith)),
        all_differ x ys (omega arith),
      )

  once_apart : (ys : List A) → ((x : A) → count_by (same x) ys ≤ 1) → AreApart ys
  once_apart [] once = tt
  once_apart (y ∷ ys) once =
      let own = once y in
      let here = count_cons (same y) y ys in
      let one = ap {B = ℕ} (λ b. cond b 1 0) (same_own y) in (
        all_differ y ys (omega arith),
        once_apart ys (λ x. let less = once x in let cons = count_cons (same x) y ys in omega arith),
      )

  same_counts : (test : A → Bool) (xs ys : List A) → IsPermutation xs ys → count_by test ys ≡ count_by test xs
  same_counts test xs ys moved = sum_by-IsPermutation (λ x. cond (test x) 1 0) xs ys moved

  pub apart_moved : (xs ys : List A) → IsPermutation xs ys → AreApart xs → AreApart ys
  apart_moved xs ys moved apart = once_apart ys (λ x. subst (λ n. n ≤ 1) (sym (same_counts (same x) xs ys moved)) (counted_once x xs apart))

  pub apart_back : (xs ys : List A) → IsPermutation xs ys → AreApart ys → AreApart xs
  apart_back xs ys moved apart = once_apart xs (λ x. subst (λ n. n ≤ 1) (same_counts (same x) xs ys moved) (counted_once x ys apart))

  -- ---- neighbours

  less : (a b : A) → is_eq (R a b) ≡ false → is_lt (R b a) ≡ false → R a b ≡ Less
  less a b ne up = go (R a b) refl ne
    where
      go : (o : Ordering) → R a b ≡ o → is_eq o ≡ false → R a b ≡ Less
      go Less r ne = r
      go Equal r ne = absurd (cc)
      go Greater r ne =
          let turned = order.antisymm b a ∙ ap ordering_reverse r in
          let yes = ap is_lt turned in
          absurd (cc)

  -- each element is less than the next
  abbrev AreStepping : List A → Type 0
  AreStepping ys = (k : ℕ) (d : A) → suc k < length ys → R (get_or ys k d) (get_or ys (suc k) d) ≡ Less

  later_steps : (y : A) (ys : List A) → AreStepping (y ∷ ys) → AreStepping ys
  later_steps y ys steps k d within = steps (suc k) d (omega arith)

  less_all : (x : A) (ys : List A) → AreStepping (x ∷ ys) → AllByRecursion (λ y. R x y ≡ Less) ys
  less_all x [] steps = tt
  less_all x (y ∷ ys) steps =
      let first : R x y ≡ Less = steps 0 x (omega arith) in
      (first, weaker ys (λ z h. order.trans x y z first h) (less_all y ys (later_steps x (y ∷ ys) steps)))

  steps_apart : (ys : List A) → AreStepping ys → AreApart ys
  steps_apart [] steps = tt
  steps_apart (y ∷ ys) steps = (weaker ys (λ z h e. differ z h e) (less_all y ys steps), steps_apart ys (later_steps y ys steps))
    where
      differ : (z : A) → R y z ≡ Less → y ≡ z → ⊥
      differ z h e = let own = itself R order y in let it : R y y ≡ Less = subst (λ w. R y w ≡ Less) (sym e) h in cc

  -- a sorted list of which no two neighbours are the same
  pub sorted_apart : (ys : List A) → IsSorted R ys
      → ((k : ℕ) (d : A) → k + 1 < length ys → is_eq (R (get_or ys k d) (get_or ys (k + 1) d)) ≡ false) → AreApart ys
  sorted_apart ys up differ = steps_apart ys (λ k d within.
      let near : k + 1 < length ys = omega arith in
      subst (λ m. R (get_or ys k d) (get_or ys m d) ≡ Less) (add-one k)
      (less (get_or ys k d) (get_or ys (k + 1) d) (differ k d near) (up k d (omega arith) near)))

  twins : (ys : List A) (k : ℕ) (x z : A) → suc k < length ys → x ≡ get_or ys k x → z ≡ get_or ys (suc k) z → AreApart ys → same x z ≡ true → ⊥
  twins [] k x z within at to apart e = absurd (omega arith)
  twins (a ∷ []) k x z within at to apart e = absurd (omega arith)
  twins (a ∷ b ∷ ys) zero x z within at to apart e = apart.0.0 (sym at ∙ same_is R exact x z e ∙ to)
  twins (a ∷ b ∷ ys) (suc k) x z within at to apart e = twins (b ∷ ys) k x z (omega arith) at to apart.1 e

  -- no two neighbours in a list whose elements differ are the same
  pub no_twins : (ys : List A) (k : ℕ) (x z : A) → k + 1 < length ys → x ≡ get_or ys k x → z ≡ get_or ys (k + 1) z → AreApart ys
      → is_eq (R x z) ≡ true → ⊥
  no_twins ys k x z within at to apart e = twins ys k x z (omega arith) at (subst (λ m. z ≡ get_or ys m z) (add-one k) to) apart e
