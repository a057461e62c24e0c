-- Tests on lists: some element passes, how many pass, what is found.
use Rattle.upd_compile.proofs.Common.{◌≡◌, ℕ, suc, ◌+◌, ◌<◌, ◌≤◌, ◌⊎◌, inl, inr, ⊎_elim, Bool, true, false, if◌then◌else◌, List, [], ◌∷◌, length, Option}
use Rattle.upd_compile.proofs.Common.{Some, None, refl, subst, arith, list_any, find, filter_map, cons_option, AllByRecursion, false≢true, or_cases, or_left}
use Rattle.upd_compile.proofs.Common.{or_right, cases_Bool}

-- where a test passes, a weaker one does
pub list_any-weaker : {A : Type 0} (p q : A → Bool) → ((x : A) → p x ≡ true → q x ≡ true) → (xs : List A) → list_any p xs ≡ true → list_any q xs ≡ true
list_any-weaker p q weaker [] e = absurd (false≢true e)
list_any-weaker p q weaker (x ∷ xs) e =
    ⊎_elim (λ here. or_left (q x) (list_any q xs) (weaker x here)) (λ later. or_right (q x) (list_any q xs) (list_any-weaker p q weaker xs later))
    (or_cases (p x) (list_any p xs) e)

-- tests that agree
pub list_any-same : {A : Type 0} (p q : A → Bool) → ((x : A) → p x ≡ q x) → (xs : List A) → list_any p xs ≡ list_any q xs
list_any-same p q same [] = refl
list_any-same p q same (x ∷ xs) = rw (same x, list_any-same p q same xs) refl

-- tests that agree on what is taken from a list
pub list_any-taken : {A B : Type 0} (f : A → Option B) (p q : B → Bool) → ((x : A) (y : B) → f x ≡ Some y → p y ≡ q y) → (xs : List A)
    → list_any p (filter_map f xs) ≡ list_any q (filter_map f xs)
list_any-taken f p q same [] = refl
list_any-taken {A} {B} f p q same (x ∷ xs) = taken (f x) refl (list_any-taken f p q same xs)
  where
    taken : (o : Option B) → f x ≡ o → list_any p (filter_map f xs) ≡ list_any q (filter_map f xs)
        → list_any p (cons_option o (filter_map f xs)) ≡ list_any q (cons_option o (filter_map f xs))
    taken None e later = later
    taken (Some y) e later = rw (same x y e, later) refl

-- what is found has what all have
pub find-holds : {A : Type 0} (Q : A → Type 0) (p : A → Bool) (xs : List A) → AllByRecursion Q xs → (x : A) → find p xs ≡ Some x → Q x
find-holds Q p [] all x e = cc
find-holds Q p (y ∷ ys) all x e =
    ⊎_elim (λ here. subst Q (let same : y ≡ x = cc (rw here at e) in same) all.0) (λ later. find-holds Q p ys all.1 x (rw later at e)) (cases_Bool (p y))

-- how many elements pass
abbrev pub number : {A : Type 0} → (A → Bool) → List A → ℕ
number p [] = 0
number p (x ∷ xs) = if p x then number p xs + 1 else number p xs

pub number-le-length : {A : Type 0} (p : A → Bool) (xs : List A) → number p xs ≤ length xs
number-le-length p [] = omega arith
number-le-length p (x ∷ xs) =
    let later = number-le-length p xs in
    elim (p x) as (λ b. (if b then number p xs + 1 else number p xs) ≤ suc (length xs)) [ true ↦ omega arith | false ↦ omega arith ]

-- fewer pass a stronger test
number-le : {A : Type 0} (p q : A → Bool) → ((x : A) → p x ≡ true → q x ≡ true) → (xs : List A) → number p xs ≤ number q xs
number-le p q weaker [] = omega arith
number-le {A} p q weaker (x ∷ xs) = here (p x) (q x) (weaker x) (number-le p q weaker xs)
  where
    here : (b c : Bool) → (b ≡ true → c ≡ true) → number p xs ≤ number q xs
        → (if b then number p xs + 1 else number p xs) ≤ (if c then number q xs + 1 else number q xs)
    here true true both later = omega arith
    here true false both later = absurd (false≢true (both refl))
    here false true both later = omega arith
    here false false both later = later

-- or the two agree
pub number-grows : {A : Type 0} (p q : A → Bool) → ((x : A) → p x ≡ true → q x ≡ true) → (xs : List A)
    → (number p xs < number q xs) ⊎ AllByRecursion (λ x. p x ≡ q x) xs
number-grows p q weaker [] = inr tt
number-grows p q weaker (x ∷ xs) = here (p x) (q x) (weaker x) (number-le p q weaker xs) (number-grows p q weaker xs)
  where
    here : (b c : Bool) → (b ≡ true → c ≡ true) → number p xs ≤ number q xs → (number p xs < number q xs) ⊎ AllByRecursion (λ x. p x ≡ q x) xs
        → ((if b then number p xs + 1 else number p xs) < (if c then number q xs + 1 else number q xs)) ⊎ ((b ≡ c) × AllByRecursion (λ x. p x ≡ q x) xs)
    here true true both no_fewer later = ⊎_elim (λ more. inl (omega arith)) (λ same. inr (refl, same)) later
    here true false both no_fewer later = absurd (false≢true (both refl))
    here false true both no_fewer later = inl (omega arith)
    here false false both no_fewer later = ⊎_elim (λ more. inl more) (λ same. inr (refl, same)) later

-- all pass where the number that pass is the length
pub number-all : {A : Type 0} (p : A → Bool) (xs : List A) → length xs ≤ number p xs → AllByRecursion (λ x. p x ≡ true) xs
number-all p [] h = tt
number-all p (x ∷ xs) h = here (p x) h (number-all p xs) (number-le-length p xs)
  where
    here : (b : Bool) → suc (length xs) ≤ (if b then number p xs + 1 else number p xs) → (length xs ≤ number p xs → AllByRecursion (λ x. p x ≡ true) xs)
        → number p xs ≤ length xs
        → (b ≡ true) × AllByRecursion (λ x. p x ≡ true) xs
    here true h later most = (refl, later (omega arith))
    here false h later most = absurd (omega arith)
