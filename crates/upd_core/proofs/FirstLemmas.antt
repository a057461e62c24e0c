-- The first element that passes a test: its index, and the list with it changed.
use Rattle.upd_core.proofs.Common.{◌≡◌, ℕ, suc, ◌+◌, ◌-◌, ◌≤◌, Bool, true, false, if◌then◌else◌, List, [], ◌∷◌, get_or, set, Option, Some, None, refl, ap}
use Rattle.upd_core.proofs.Common.{◌∙◌, arith, sym, same_Some, index_from, at_first}
use Rattle.std.proofs.Common.{find}

-- a list with the element at an index changed
abbrev changed_at : {A : Type 0} → (A → A) → List A → ℕ → A → List A
changed_at change xs i d = set xs i (change (get_or xs i d))

found_by_test : {A : Type 0} (change : A → A) (n : ℕ) (x : A) (xs later : List A) (next : Option ℕ) (i : ℕ) (d : A) (b : Bool) →
    (next ≡ Some i → (n + 1 ≤ i) × (later ≡ changed_at change xs (i - (n + 1)) d)) → (if b then Some n else next) ≡ Some i →
    (n ≤ i) × ((if b then change x ∷ xs else x ∷ later) ≡ changed_at change (x ∷ xs) (i - n) d)
found_by_test change n x xs later next i d true step e =
    let same : n ≡ i = same_Some n i e in
    let start : i - n ≡ 0 = omega arith in
    (omega arith, rw start refl)
found_by_test change n x xs later next i d false step e =
    let after : n + 1 ≤ i = (step e).0 in
    let distance : i - n ≡ suc (i - (n + 1)) = omega arith in
    (omega arith, rw distance (ap (λ t. x ∷ t) (step e).1))

found_from : {A : Type 0} (test : A → Bool) (change : A → A) (n : ℕ) (xs : List A) (i : ℕ) (d : A) → index_from test n xs ≡ Some i →
    (n ≤ i) × (at_first test change xs ≡ changed_at change xs (i - n) d)
found_from test change n [] i d e = cc
found_from test change n (x ∷ xs) i d e =
    found_by_test change n x xs (at_first test change xs) (index_from test (n + 1) xs) i d (test x) (found_from test change (n + 1) xs i d) e

-- at the first one, x, the change is a write of y
pub at_first_found : {A : Type 0} (test : A → Bool) (change : A → A) (xs : List A) (i : ℕ) (d x y : A) → Some i ≡ index_from test 0 xs → x ≡ get_or xs i d →
    y ≡ change x → set xs i y ≡ at_first test change xs
at_first_found test change xs i d x y e read changed =
    let start : i - 0 ≡ i = omega arith in
    ap (λ t. set xs i t) (changed ∙ ap change read) ∙ sym ((found_from test change 0 xs i d (sym e)).1 ∙ ap (λ k. changed_at change xs k d) start)

none_by_test : {A : Type 0} (change : A → A) (n : ℕ) (x : A) (xs later : List A) (next : Option ℕ) (b : Bool) → (next ≡ None → later ≡ xs) →
    (if b then Some n else next) ≡ None → (if b then change x ∷ xs else x ∷ later) ≡ x ∷ xs
none_by_test change n x xs later next true step e = cc
none_by_test change n x xs later next false step e = ap (λ t. x ∷ t) (step e)

none_from : {A : Type 0} (test : A → Bool) (change : A → A) (n : ℕ) (xs : List A) → index_from test n xs ≡ None → at_first test change xs ≡ xs
none_from test change n [] e = refl
none_from test change n (x ∷ xs) e =
    none_by_test change n x xs (at_first test change xs) (index_from test (n + 1) xs) (test x) (none_from test change (n + 1) xs) e

-- where none passes, nothing changes
pub at_first_none : {A : Type 0} (test : A → Bool) (change : A → A) (xs : List A) → None ≡ index_from test 0 xs → xs ≡ at_first test change xs
at_first_none test change xs e = sym (none_from test change 0 xs (sym e))

-- what a search finds is the element at its index
found_at : {A : Type 0} (test : A → Bool) (n : ℕ) (xs : List A) (i : ℕ) (d : A) → index_from test n xs ≡ Some i →
    (n ≤ i) × (find test xs ≡ Some (get_or xs (i - n) d))
found_at test n [] i d e = cc
found_at test n (x ∷ xs) i d e = by_test (test x) (found_at test (n + 1) xs i d) e
  where
    by_test : (b : Bool) → (index_from test (n + 1) xs ≡ Some i → (n + 1 ≤ i) × (find test xs ≡ Some (get_or xs (i - (n + 1)) d))) →
        (if b then Some n else index_from test (n + 1) xs) ≡ Some i → (n ≤ i) × ((if b then Some x else find test xs) ≡ Some (get_or (x ∷ xs) (i - n) d))
    by_test true step here =
        let same : n ≡ i = same_Some n i here in
        let start : i - n ≡ 0 = omega arith in
        (omega arith, rw start refl)
    by_test false step later =
        let after : n + 1 ≤ i = (step later).0 in
        let distance : i - n ≡ suc (i - (n + 1)) = omega arith in
        (omega arith, rw distance (step later).1)

pub find_found : {A : Type 0} (test : A → Bool) (xs : List A) (i : ℕ) (d x : A) → Some i ≡ index_from test 0 xs → x ≡ get_or xs i d → find test xs ≡ Some x
find_found test xs i d x e read =
    let start : i - 0 ≡ i = omega arith in
    (found_at test 0 xs i d (sym e)).1 ∙ ap (λ k. Some (get_or xs k d)) start ∙ ap Some (sym read)

missed_from : {A : Type 0} (test : A → Bool) (n : ℕ) (xs : List A) → index_from test n xs ≡ None → find test xs ≡ None
missed_from test n [] e = refl
missed_from test n (x ∷ xs) e = by_test (test x) (missed_from test (n + 1) xs) e
  where
    by_test : (b : Bool) → (index_from test (n + 1) xs ≡ None → find test xs ≡ None) → (if b then Some n else index_from test (n + 1) xs) ≡ None →
        (if b then Some x else find test xs) ≡ None
    by_test true step e = cc
    by_test false step e = step e

pub find_missed : {A : Type 0} (test : A → Bool) (xs : List A) → None ≡ index_from test 0 xs → find test xs ≡ None
find_missed test xs e = missed_from test 0 xs (sym e)
