-- Elements at their indices, and lists whose elements differ.
use Rattle.upd_core.proofs.Common.{◌≡◌, ℕ, zero, suc, ◌+◌, ◌-◌, ◌<◌, ◌≤◌, Bool, true, false, List, [], ◌∷◌, ◌++◌, length, map, slice_get, Some, refl, sym, ap}
use Rattle.upd_core.proofs.Common.{◌∙◌, subst, arith, same_Some, find, AllByRecursion, Contains, index_from, AreApart}
use Rattle.std.proofs.lemmas.Option.{slice_get_read, slice_get_within, get_or_from_slice_get}
use Rattle.upd_core.specs.Sound.{AreRising}

-- ---- elements at indices

pub contained_at : {A : Type 0} (xs : List A) (x : A) → Contains xs x → (k : ℕ) × (slice_get xs k ≡ Some x)
contained_at xs x is = (is.0, slice_get_read xs (length xs) is.0 x refl is.1 (sym is.2))

pub at_contained : {A : Type 0} (xs : List A) (k : ℕ) (x : A) → slice_get xs k ≡ Some x → Contains xs x
at_contained xs k x e = (k, slice_get_within xs k x e, get_or_from_slice_get xs k x x e)

-- what holds of each element
pub all_at : {A : Type 0} (P : A → Type 0) (xs : List A) (k : ℕ) (x : A) → AllByRecursion P xs → slice_get xs k ≡ Some x → P x
all_at P [] k x all e = absurd (cc)
all_at P (y ∷ xs) zero x all e = subst P (same_Some y x e) all.0
all_at P (y ∷ xs) (suc k) x all e = all_at P xs k x all.1 e

pub all_of_contained : {A : Type 0} (P : A → Type 0) (xs : List A) (x : A) → AllByRecursion P xs → Contains xs x → P x
all_of_contained P xs x all is = let at = contained_at xs x is in all_at P xs at.0 x all at.1

pub all_by_index : {A : Type 0} {P : A → Type 0} (xs : List A) → ((k : ℕ) (x : A) → slice_get xs k ≡ Some x → P x) → AllByRecursion P xs
all_by_index [] each = tt
all_by_index (x ∷ xs) each = (each zero x refl, all_by_index xs (λ k y e. each (suc k) y e))

pub all_front : {A : Type 0} (P : A → Type 0) (xs ys : List A) → AllByRecursion P (xs ++ ys) → AllByRecursion P xs
all_front P [] ys all = tt
all_front P (x ∷ xs) ys all = (all.0, all_front P xs ys all.1)

pub all_back : {A : Type 0} (P : A → Type 0) (xs ys : List A) → AllByRecursion P (xs ++ ys) → AllByRecursion P ys
all_back P [] ys all = all
all_back P (x ∷ xs) ys all = all_back P xs ys all.1

pub all_mapped : {A B : Type 0} (P : B → Type 0) (f : A → B) (xs : List A) → AllByRecursion P (map f xs) → AllByRecursion (λ x. P (f x)) xs
all_mapped P f [] all = tt
all_mapped P f (x ∷ xs) all = (all.0, all_mapped P f xs all.1)

-- ---- elements that differ in what f shows

pub apart_front : {A B : Type 0} (f : A → B) (xs ys : List A) → AreApart (map f (xs ++ ys)) → AreApart (map f xs)
apart_front f [] ys apart = tt
apart_front f (x ∷ xs) ys apart = (front xs apart.0, apart_front f xs ys apart.1)
  where
    front : (zs : List _) → AllByRecursion (λ w. f x ≡ w → ⊥) (map f (zs ++ ys)) → AllByRecursion (λ w. f x ≡ w → ⊥) (map f zs)
    front [] all = tt
    front (z ∷ zs) all = (all.0, front zs all.1)

pub apart_back : {A B : Type 0} (f : A → B) (xs ys : List A) → AreApart (map f (xs ++ ys)) → AreApart (map f ys)
apart_back f [] ys apart = apart
apart_back f (x ∷ xs) ys apart = apart_back f xs ys apart.1

-- one of the front and one of the back
pub apart_across : {A B : Type 0} (f : A → B) (xs ys : List A) (j k : ℕ) (x y : A) → AreApart (map f (xs ++ ys)) → slice_get xs j ≡ Some x
    → slice_get ys k ≡ Some y → f x ≡ f y → ⊥
apart_across f [] ys j k x y apart d e same = absurd (cc)
apart_across f (w ∷ xs) ys zero k x y apart d e same =
    let behind : AllByRecursion (λ z. f w ≡ f z → ⊥) ys = all_back _ xs ys (all_mapped (λ v. f w ≡ v → ⊥) f (xs ++ ys) apart.0) in
    all_at (λ z. f w ≡ f z → ⊥) ys k y behind e (subst (λ z. f z ≡ f y) (sym (same_Some w x d)) same)
apart_across f (w ∷ xs) ys (suc j) k x y apart d e same = apart_across f xs ys j k x y apart.1 d e same

-- elements that f shows alike are one
pub apart_same : {A B : Type 0} (f : A → B) (xs : List A) (j k : ℕ) (x y : A) → AreApart (map f xs) → slice_get xs j ≡ Some x → slice_get xs k ≡ Some y
    → f x ≡ f y → x ≡ y
apart_same f [] j k x y apart d e same = absurd (cc)
apart_same f (w ∷ xs) zero zero x y apart d e same = let a = same_Some w x d in let b = same_Some w y e in cc
apart_same f (w ∷ xs) zero (suc k) x y apart d e same = absurd (
    all_at (λ z. f w ≡ f z → ⊥) xs k y (all_mapped (λ v. f w ≡ v → ⊥) f xs apart.0) e (subst (λ z. f z ≡ f y) (sym (same_Some w x d)) same))
apart_same f (w ∷ xs) (suc j) zero x y apart d e same = absurd (
    all_at (λ z. f w ≡ f z → ⊥) xs j x (all_mapped (λ v. f w ≡ v → ⊥) f xs apart.0) d (subst (λ z. f z ≡ f x) (sym (same_Some w y e)) (sym same)))
apart_same f (w ∷ xs) (suc j) (suc k) x y apart d e same = apart_same f xs j k x y apart.1 d e same

-- rising numbers differ
pub rising_apart : (ns : List ℕ) → AreRising ns → AreApart ns
rising_apart [] rising = tt
rising_apart (n ∷ ns) rising = (others ns rising.0, rising_apart ns rising.1)
  where
    others : (ms : List ℕ) → AllByRecursion (λ m. n < m) ms → AllByRecursion (λ m. n ≡ m → ⊥) ms
    others [] all = tt
    others (m ∷ ms) all = ((λ same. omega (arith, all.0)), others ms all.1)

-- ---- what a search finds

pub find_first : {A : Type 0} (test : A → Bool) (x : A) (xs : List A) → test x ≡ true → find test (x ∷ xs) ≡ Some x
find_first test x xs e = rw e refl

pub find_later : {A : Type 0} (test : A → Bool) (x : A) (xs : List A) → test x ≡ false → find test (x ∷ xs) ≡ find test xs
find_later test x xs e = rw e refl

-- a search by what f shows finds the only one
pub find_only : {A B : Type 0} (f : A → B) (test : A → Bool) (xs : List A) (k : ℕ) (x : A) → AreApart (map f xs) → slice_get xs k ≡ Some x → test x ≡ true
    → ((y : A) → test y ≡ true → f y ≡ f x) → find test xs ≡ Some x
find_only f test [] k x apart e passes only = absurd (cc)
find_only f test (y ∷ xs) zero x apart e passes only =
    let same = same_Some y x e in
    find_first test y xs (subst (λ z. test z ≡ true) (sym same) passes) ∙ ap Some same
find_only f test (y ∷ xs) (suc k) x apart e passes only = go (test y) refl (find_only f test xs k x apart.1 e passes only)
  where
    go : (b : Bool) → test y ≡ b → find test xs ≡ Some x → find test (y ∷ xs) ≡ Some x
    go true first later = absurd (all_at (λ z. f y ≡ f z → ⊥) xs k x (all_mapped (λ v. f y ≡ v → ⊥) f xs apart.0) e (only y first))
    go false other later = find_later test y xs other ∙ later

-- what a search finds passes, and is at its index
pub index_found : {A : Type 0} (test : A → Bool) (n : ℕ) (xs : List A) (i : ℕ) → index_from test n xs ≡ Some i
    → (x : A) × (slice_get xs (i - n) ≡ Some x) × (test x ≡ true) × (n ≤ i)
index_found test n [] i e = absurd (cc)
index_found test n (y ∷ xs) i e = go (test y) refl (index_found test (n + 1) xs i)
  where
    go : (b : Bool) → test y ≡ b → (index_from test (n + 1) xs ≡ Some i → (x : _) × (slice_get xs (i - (n + 1)) ≡ Some x) × (test x ≡ true) × (n + 1 ≤ i))
        → (x : _) × (slice_get (y ∷ xs) (i - n) ≡ Some x) × (test x ≡ true) × (n ≤ i)
    go true first later =
        let same : n ≡ i = same_Some n i (rw first at e) in
        let start : i - n ≡ 0 = omega arith in
        (y, rw start refl, first, omega arith)
    go false other later =
        let found = later (rw other at e) in
        let from = found.3 in
        let distance : i - n ≡ suc (i - (n + 1)) = omega arith in
        (found.0, rw distance found.1, found.2, omega arith)

-- what a search finds passes, and is an element
pub find_at : {A : Type 0} (test : A → Bool) (xs : List A) (x : A) → find test xs ≡ Some x → (k : ℕ) × (slice_get xs k ≡ Some x) × (test x ≡ true)
find_at test [] x e = absurd (cc)
find_at test (y ∷ xs) x e = go (test y) refl (find_at test xs x)
  where
    go : (b : Bool) → test y ≡ b → (find test xs ≡ Some x → (k : ℕ) × (slice_get xs k ≡ Some x) × (test x ≡ true))
        → (k : ℕ) × (slice_get (y ∷ xs) k ≡ Some x) × (test x ≡ true)
    go true first later = let same = same_Some y x (sym (find_first test y xs first) ∙ e) in (zero, ap Some same, subst (λ z. test z ≡ true) same first)
    go false other later = let found = later (sym (find_later test y xs other) ∙ e) in (suc found.0, found.1, found.2)
