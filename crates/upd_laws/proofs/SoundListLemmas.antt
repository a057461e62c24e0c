-- Lists: facts of each element, lists whose elements differ, and lists with one element more or with some fewer.
use Rattle.upd_laws.proofs.Common.{◌≡◌, ℕ, ◌+◌, ◌<◌, Bool, true, false, cond, ◌&&◌, ◌||◌, List, [], ◌∷◌, ◌++◌, map, length, inl, inr, refl, sym, ap, ◌∙◌}
use Rattle.upd_laws.proofs.Common.{subst, arith, append_assoc, or_cases, or_left, or_right, sum_by-cons, Some, None, ◌==◌, ◌⊎◌, count_by, list_any, find}
use Rattle.upd_laws.proofs.Common.{filter, flat_map, AllByRecursion, AllZip, at_first, AreApart, AreRising, all_front, all_back}
use Rattle.std.proofs.lemmas.Bool.Decides.{Decides-eqb}
use Rattle.std.proofs.lemmas.List.Sums.{sum_by-append}
use Rattle.upd_core.proofs.ApartLemmas.{all_mapped}

-- ---- tests

pub and_left : (a b : Bool) → (a && b) ≡ true → a ≡ true
and_left true b e = refl
and_left false b e = e

pub and_right : (a b : Bool) → (a && b) ≡ true → b ≡ true
and_right true b e = e
and_right false b e = absurd (cc)

pub both : (a b : Bool) → a ≡ true → b ≡ true → (a && b) ≡ true
both a b e f = rw (e, f) refl

pub or_none_left : (a b : Bool) → (a || b) ≡ false → a ≡ false
or_none_left true b e = e
or_none_left false b e = refl

pub or_none_right : (a b : Bool) → (a || b) ≡ false → b ≡ false
or_none_right true b e = absurd (cc)
or_none_right false b e = e

pub same_number : (a b : ℕ) → (a == b) ≡ true → a ≡ b
same_number a b e = (Decides-eqb a b).0 e

pub is_same_number : (a b : ℕ) → a ≡ b → (a == b) ≡ true
is_same_number a b e = (Decides-eqb a b).1 e

pub other_number : (a b : ℕ) → (a == b) ≡ false → a ≡ b → ⊥
other_number a b e same = let f = is_same_number a b same in cc

-- ---- facts of each element

pub all_append : {A : Type 0} (P : A → Type 0) (xs ys : List A) → AllByRecursion P xs → AllByRecursion P ys → AllByRecursion P (xs ++ ys)
all_append P [] ys a b = b
all_append P (x ∷ xs) ys a b = (a.0, all_append P xs ys a.1 b)

pub all_weaker : {A : Type 0} (P Q : A → Type 0) (xs : List A) → ((x : A) → P x → Q x) → AllByRecursion P xs → AllByRecursion Q xs
all_weaker P Q [] k a = tt
all_weaker P Q (x ∷ xs) k a = (k x a.0, all_weaker P Q xs k a.1)

pub all_both : {A : Type 0} (P Q : A → Type 0) (xs : List A) → AllByRecursion P xs → AllByRecursion Q xs → AllByRecursion (λ x. P x × Q x) xs
all_both P Q [] a b = tt
all_both P Q (x ∷ xs) a b = ((a.0, b.0), all_both P Q xs a.1 b.1)

pub all_map : {A B : Type 0} (P : B → Type 0) (f : A → B) (xs : List A) → AllByRecursion (λ x. P (f x)) xs → AllByRecursion P (map f xs)
all_map P f [] a = tt
all_map P f (x ∷ xs) a = (a.0, all_map P f xs a.1)

pub all_filter : {A : Type 0} (P : A → Type 0) (test : A → Bool) (xs : List A) → AllByRecursion P xs → AllByRecursion P (filter test xs)
all_filter P test [] a = tt
all_filter P test (x ∷ xs) a = go (test x) refl (all_filter P test xs a.1)
  where
    go : (b : Bool) → test x ≡ b → AllByRecursion P (filter test xs) → AllByRecursion P (filter test (x ∷ xs))
    go true e rest = rw e (a.0, rest)
    go false e rest = rw e rest

-- what passes the test of a filter
pub all_pass : {A : Type 0} (P : A → Type 0) (test : A → Bool) (xs : List A) → ((x : A) → test x ≡ true → P x) → AllByRecursion P (filter test xs)
all_pass P test [] k = tt
all_pass P test (x ∷ xs) k = go (test x) refl (all_pass P test xs k)
  where
    go : (b : Bool) → test x ≡ b → AllByRecursion P (filter test xs) → AllByRecursion P (filter test (x ∷ xs))
    go true e rest = rw e (k x e, rest)
    go false e rest = rw e rest

pub all_flat : {A B : Type 0} (P : B → Type 0) (f : A → List B) (xs : List A) → AllByRecursion (λ x. AllByRecursion P (f x)) xs
    → AllByRecursion P (flat_map f xs)
all_flat P f [] a = tt
all_flat P f (x ∷ xs) a = all_append P (f x) (flat_map f xs) a.0 (all_flat P f xs a.1)

pub all_each : {A B : Type 0} (P : B → Type 0) (f : A → List B) (xs : List A) → AllByRecursion P (flat_map f xs)
    → AllByRecursion (λ x. AllByRecursion P (f x)) xs
all_each P f [] a = tt
all_each P f (x ∷ xs) a = (all_front P (f x) (flat_map f xs) a, all_each P f xs (all_back P (f x) (flat_map f xs) a))

-- ---- an element at the end of elements that differ

pub apart_end : {A : Type 0} (x : A) (xs : List A) → AreApart xs → AllByRecursion (λ y. x ≡ y → ⊥) xs → AreApart (xs ++ x ∷ [])
apart_end x [] apart new = (tt, tt)
apart_end x (y ∷ xs) apart new = (all_append (λ z. y ≡ z → ⊥) xs (x ∷ []) apart.0 ((λ e. new.0 (sym e)), tt), apart_end x xs apart.1 new.1)

pub rising_end : (n : ℕ) (ns : List ℕ) → AreRising ns → AllByRecursion (λ m. m < n) ns → AreRising (ns ++ n ∷ [])
rising_end n [] rising below = (tt, tt)
rising_end n (m ∷ ns) rising below = (all_append (λ k. m < k) ns (n ∷ []) rising.0 (below.0, tt), rising_end n ns rising.1 below.1)

-- ---- one element more

pub record HasMore {A : Type 0} (x : A) (xs ys : List A) : Type 0 where
  pub front : List A
  pub back : List A
  pub was : xs ≡ front ++ back
  pub is : ys ≡ front ++ x ∷ back

pub more_all : {A : Type 0} (P : A → Type 0) (x : A) (xs ys : List A) → HasMore x xs ys → P x → AllByRecursion P xs → AllByRecursion P ys
more_all P x xs ys m p all =
    let split : AllByRecursion P (m.front ++ m.back) = subst (AllByRecursion P) m.was all in
    subst (AllByRecursion P) (sym m.is) (all_append P m.front (x ∷ m.back) (all_front P m.front m.back split) (p, all_back P m.front m.back split))

apart_middle : {A B : Type 0} (f : A → B) (x : A) (xs ys : List A) → AreApart (map f (xs ++ ys)) → AllByRecursion (λ y. f x ≡ f y → ⊥) (xs ++ ys)
    → AreApart (map f (xs ++ x ∷ ys))
apart_middle f x [] ys apart new = (all_map (λ y. f x ≡ y → ⊥) f ys new, apart)
apart_middle f x (z ∷ xs) ys apart new =
    let rest : AllByRecursion (λ y. f z ≡ f y → ⊥) (xs ++ ys) = all_mapped (λ y. f z ≡ y → ⊥) f (xs ++ ys) apart.0 in
    let more : AllByRecursion (λ y. f z ≡ f y → ⊥) (xs ++ x ∷ ys) =
    all_append _ xs (x ∷ ys) (all_front _ xs ys rest) ((λ e. new.0 (sym e)), all_back _ xs ys rest) in
    (all_map (λ y. f z ≡ y → ⊥) f (xs ++ x ∷ ys) more, apart_middle f x xs ys apart.1 new.1)

pub more_apart : {A B : Type 0} (f : A → B) (x : A) (xs ys : List A) → HasMore x xs ys → AllByRecursion (λ y. f x ≡ f y → ⊥) xs → AreApart (map f xs)
    → AreApart (map f ys)
more_apart f x xs ys m new apart =
    subst (λ l. AreApart (map f l)) (sym m.is)
    (apart_middle f x m.front m.back (subst (λ l. AreApart (map f l)) m.was apart) (subst (AllByRecursion (λ y. f x ≡ f y → ⊥)) m.was new))

pub more_count : {A : Type 0} (test : A → Bool) (x : A) (xs ys : List A) → HasMore x xs ys → count_by test ys ≡ count_by test xs + cond (test x) 1 0
more_count test x xs ys m =
    let one : _ → ℕ = λ y. cond (test y) 1 0 in
    let a = sum_by-append one m.front (x ∷ m.back) in
    let b = sum_by-cons one x m.back in
    let c = sum_by-append one m.front m.back in
    rw (m.was, m.is) (omega (arith, a, b, c))

pub more_front : {A : Type 0} (x : A) (xs ys more : List A) → HasMore x xs ys → HasMore x (more ++ xs) (more ++ ys)
more_front x xs ys more m = record {
  front = more ++ m.front;
  back = m.back;
  was = ap (λ l. more ++ l) m.was ∙ sym (append_assoc more m.front m.back);
  is = ap (λ l. more ++ l) m.is ∙ sym (append_assoc more m.front (x ∷ m.back));
}

pub more_back : {A : Type 0} (x : A) (xs ys more : List A) → HasMore x xs ys → HasMore x (xs ++ more) (ys ++ more)
more_back x xs ys more m = record {
  front = m.front;
  back = m.back ++ more;
  was = ap (λ l. l ++ more) m.was ∙ append_assoc m.front m.back more;
  is = ap (λ l. l ++ more) m.is ∙ append_assoc m.front (x ∷ m.back) more;
}

-- ---- some elements fewer, and others changed, but not in what f shows

pub data IsPart {A B : Type 0} (f : A → B) : List A → List A → Type 0 where
  none : IsPart f [] []
  fewer : {x : A} {xs ys : List A} → IsPart f xs ys → IsPart f (x ∷ xs) ys
  kept : {x y : A} {xs ys : List A} → f y ≡ f x → IsPart f xs ys → IsPart f (x ∷ xs) (y ∷ ys)

pub part_all : {A B : Type 0} (f : A → B) (P : B → Type 0) {xs ys : List A} → IsPart f xs ys → AllByRecursion P (map f xs) → AllByRecursion P (map f ys)
part_all f P none all = tt
part_all f P (fewer p) all = part_all f P p all.1
part_all f P (kept e p) all = (subst P (sym e) all.0, part_all f P p all.1)

pub part_apart : {A B : Type 0} (f : A → B) {xs ys : List A} → IsPart f xs ys → AreApart (map f xs) → AreApart (map f ys)
part_apart f none apart = tt
part_apart f (fewer p) apart = part_apart f p apart.1
part_apart f (kept {x} {y} {xs} {ys} e p) apart =
    (subst (λ v. AllByRecursion (λ w. v ≡ w → ⊥) (map f ys)) (sym e) (part_all f (λ w. f x ≡ w → ⊥) p apart.0), part_apart f p apart.1)

pub part_rising : {A : Type 0} (f : A → ℕ) {xs ys : List A} → IsPart f xs ys → AreRising (map f xs) → AreRising (map f ys)
part_rising f none rising = tt
part_rising f (fewer p) rising = part_rising f p rising.1
part_rising f (kept {x} {y} {xs} {ys} e p) rising =
    (subst (λ v. AllByRecursion (λ w. v < w) (map f ys)) (sym e) (part_all f (λ w. f x < w) p rising.0), part_rising f p rising.1)

pub part_same : {A B : Type 0} (f : A → B) (xs : List A) → IsPart f xs xs
part_same f [] = none
part_same f (x ∷ xs) = kept refl (part_same f xs)

pub part_append : {A B : Type 0} (f : A → B) {xs ys zs ws : List A} → IsPart f xs ys → IsPart f zs ws → IsPart f (xs ++ zs) (ys ++ ws)
part_append f none q = q
part_append f (fewer p) q = fewer (part_append f p q)
part_append f (kept e p) q = kept e (part_append f p q)

pub part_without : {A B : Type 0} (f : A → B) (xs : List A) {zs ws : List A} → IsPart f zs ws → IsPart f (xs ++ zs) ws
part_without f [] q = q
part_without f (x ∷ xs) q = fewer (part_without f xs q)

-- ---- two lists, element by element

pub zip_same : {A : Type 0} (R : A → A → Type 0) → ((x : A) → R x x) → (xs : List A) → AllZip R xs xs
zip_same R r [] = tt
zip_same R r (x ∷ xs) = (r x, zip_same R r xs)

pub zip_append : {A : Type 0} (R : A → A → Type 0) (xs ys zs ws : List A) → AllZip R xs ys → AllZip R zs ws → AllZip R (xs ++ zs) (ys ++ ws)
zip_append R [] [] zs ws a b = b
zip_append R [] (y ∷ ys) zs ws a b = absurd a
zip_append R (x ∷ xs) [] zs ws a b = absurd a
zip_append R (x ∷ xs) (y ∷ ys) zs ws a b = (a.0, zip_append R xs ys zs ws a.1 b)

pub zip_all : {A : Type 0} (R : A → A → Type 0) (P Q : A → Type 0) (xs ys : List A) → ((x y : A) → R x y → P x → Q y) → AllZip R xs ys → AllByRecursion P xs
    → AllByRecursion Q ys
zip_all R P Q [] [] k a b = tt
zip_all R P Q [] (y ∷ ys) k a b = absurd a
zip_all R P Q (x ∷ xs) [] k a b = tt
zip_all R P Q (x ∷ xs) (y ∷ ys) k a b = (k x y a.0 b.0, zip_all R P Q xs ys k a.1 b.1)

pub zip_part : {A B : Type 0} (R : A → A → Type 0) (f : A → B) (xs ys : List A) → ((x y : A) → R x y → f y ≡ f x) → AllZip R xs ys → IsPart f xs ys
zip_part R f [] [] k a = none
zip_part R f [] (y ∷ ys) k a = absurd a
zip_part R f (x ∷ xs) [] k a = absurd a
zip_part R f (x ∷ xs) (y ∷ ys) k a = kept (k x y a.0) (zip_part R f xs ys k a.1)

pub zip_length : {A : Type 0} (R : A → A → Type 0) (xs ys : List A) → AllZip R xs ys → length ys ≡ length xs
zip_length R [] [] a = refl
zip_length R [] (y ∷ ys) a = absurd a
zip_length R (x ∷ xs) [] a = absurd a
zip_length R (x ∷ xs) (y ∷ ys) a = let e = zip_length R xs ys a.1 in omega arith

pub zip_count : {A : Type 0} (R : A → A → Type 0) (test : A → Bool) (xs ys : List A) → ((x y : A) → R x y → test y ≡ test x) → AllZip R xs ys
    → count_by test ys ≡ count_by test xs
zip_count R test [] [] k a = refl
zip_count R test [] (y ∷ ys) k a = absurd a
zip_count R test (x ∷ xs) [] k a = absurd a
zip_count R test (x ∷ xs) (y ∷ ys) k a =
    let one : _ → ℕ = λ z. cond (test z) 1 0 in
    sum_by-cons one y ys ∙ (rw (k x y a.0, zip_count R test xs ys k a.1) refl) ∙ sym (sum_by-cons one x xs)

-- ---- the first element that passes a test, changed

pub at_first_all : {A : Type 0} (test : A → Bool) (change : A → A) (P : A → Type 0) (xs : List A) → ((x : A) → find test xs ≡ Some x → P x → P (change x))
    → AllByRecursion P xs → AllByRecursion P (at_first test change xs)
at_first_all test change P [] k all = tt
at_first_all test change P (x ∷ xs) k all = go (test x) refl (at_first_all test change P xs)
  where
    go : (b : Bool) → test x ≡ b → (((y : _) → find test xs ≡ Some y → P y → P (change y)) → AllByRecursion P xs → AllByRecursion P (at_first test change xs))
        → AllByRecursion P (at_first test change (x ∷ xs))
    go true e rest = rw e (k x (rw e refl) all.0, all.1)
    go false e rest = rw e (all.0, rest (λ y f p. k y (rw e f) p) all.1)

pub at_first_any : {A : Type 0} (test : A → Bool) (change : A → A) (xs : List A) → ((x : A) → test (change x) ≡ test x)
    → list_any test (at_first test change xs) ≡ list_any test xs
at_first_any test change [] k = refl
at_first_any test change (x ∷ xs) k = go (test x) refl (at_first_any test change xs k)
  where
    go : (b : Bool) → test x ≡ b → list_any test (at_first test change xs) ≡ list_any test xs
        → list_any test (at_first test change (x ∷ xs)) ≡ list_any test (x ∷ xs)
    go true e rest = rw (e, k x, e) refl
    go false e rest = rw (e, e) rest

pub at_first_find : {A : Type 0} (test : A → Bool) (change : A → A) (xs : List A) (x : A) → ((y : A) → test (change y) ≡ test y) → find test xs ≡ Some x
    → find test (at_first test change xs) ≡ Some (change x)
at_first_find test change [] x k f = absurd (cc)
at_first_find test change (y ∷ xs) x k f = go (test y) refl (at_first_find test change xs x k)
  where
    go : (b : Bool) → test y ≡ b → (find test xs ≡ Some x → find test (at_first test change xs) ≡ Some (change x))
        → find test (at_first test change (y ∷ xs)) ≡ Some (change x)
    go true e rest = let g = rw e at f in rw (e, k y, e) (let same : y ≡ x = cc in ap (λ z. Some (change z)) same)
    go false e rest = let g = rw e at f in rw (e, e) (rest g)

pub at_first_map : {A B : Type 0} (f : A → B) (test : A → Bool) (change : A → A) (xs : List A) → ((x : A) → f (change x) ≡ f x)
    → map f (at_first test change xs) ≡ map f xs
at_first_map f test change [] k = refl
at_first_map f test change (x ∷ xs) k = go (test x) refl (at_first_map f test change xs k)
  where
    go : (b : Bool) → test x ≡ b → map f (at_first test change xs) ≡ map f xs → map f (at_first test change (x ∷ xs)) ≡ map f (x ∷ xs)
    go true e rest = rw (e, k x) refl
    go false e rest = rw (e, rest) refl

pub at_first_more : {A B : Type 0} (f : A → List B) (test : A → Bool) (change : A → A) (new : B) (xs : List A) → list_any test xs ≡ true
    → ((x : A) → HasMore new (f x) (f (change x))) → HasMore new (flat_map f xs) (flat_map f (at_first test change xs))
at_first_more f test change new [] any k = absurd (cc)
at_first_more f test change new (x ∷ xs) any k = go (test x) refl (at_first_more f test change new xs)
  where
    go : (b : Bool) → test x ≡ b
        → (list_any test xs ≡ true → ((y : _) → HasMore new (f y) (f (change y))) → HasMore new (flat_map f xs) (flat_map f (at_first test change xs)))
        → HasMore new (flat_map f (x ∷ xs)) (flat_map f (at_first test change (x ∷ xs)))
    go true e rest = rw e (more_back new (f x) (f (change x)) (flat_map f xs) (k x))
    go false e rest = rw e (more_front new (flat_map f xs) (flat_map f (at_first test change xs)) (f x) (rest (rw e at any) k))

pub at_first_zip : {A B : Type 0} (R : B → B → Type 0) (f : A → List B) (test : A → Bool) (change : A → A) (xs : List A) → ((y : B) → R y y)
    → ((x : A) → AllZip R (f x) (f (change x))) → AllZip R (flat_map f xs) (flat_map f (at_first test change xs))
at_first_zip R f test change [] r k = tt
at_first_zip R f test change (x ∷ xs) r k = go (test x) refl (at_first_zip R f test change xs r k)
  where
    go : (b : Bool) → test x ≡ b → AllZip R (flat_map f xs) (flat_map f (at_first test change xs))
        → AllZip R (flat_map f (x ∷ xs)) (flat_map f (at_first test change (x ∷ xs)))
    go true e rest = rw e (zip_append R (f x) (f (change x)) (flat_map f xs) (flat_map f xs) (k x) (zip_same R r (flat_map f xs)))
    go false e rest = rw e (zip_append R (f x) (f x) (flat_map f xs) (flat_map f (at_first test change xs)) (zip_same R r (f x)) rest)

pub at_first_part : {A B C : Type 0} (show : B → C) (f : A → List B) (test : A → Bool) (change : A → A) (xs : List A)
    → ((x : A) → IsPart show (f x) (f (change x))) → IsPart show (flat_map f xs) (flat_map f (at_first test change xs))
at_first_part show f test change [] k = none
at_first_part show f test change (x ∷ xs) k = go (test x) refl (at_first_part show f test change xs k)
  where
    go : (b : Bool) → test x ≡ b → IsPart show (flat_map f xs) (flat_map f (at_first test change xs))
        → IsPart show (flat_map f (x ∷ xs)) (flat_map f (at_first test change (x ∷ xs)))
    go true e rest = rw e (part_append show (k x) (part_same show (flat_map f xs)))
    go false e rest = rw e (part_append show (part_same show (f x)) rest)

-- ---- an element that passes a test

pub any_front : {A : Type 0} (test : A → Bool) (xs ys : List A) → list_any test xs ≡ true → list_any test (xs ++ ys) ≡ true
any_front test [] ys e = absurd (cc)
any_front test (x ∷ xs) ys e = go (test x) refl (any_front test xs ys)
  where
    go : (b : Bool) → test x ≡ b → (list_any test xs ≡ true → list_any test (xs ++ ys) ≡ true) → list_any test (x ∷ (xs ++ ys)) ≡ true
    go true f rest = rw f refl
    go false f rest = rw f (rest (rw f at e))

pub any_last : {A : Type 0} (test : A → Bool) (xs : List A) (x : A) → test x ≡ true → list_any test (xs ++ x ∷ []) ≡ true
any_last test [] x e = rw e refl
any_last test (y ∷ xs) x e = or_right (test y) (list_any test (xs ++ x ∷ [])) (any_last test xs x e)

-- one at the end, or one before it
pub any_end : {A : Type 0} (test : A → Bool) (xs : List A) (x : A) → list_any test (xs ++ x ∷ []) ≡ true → (list_any test xs ≡ true) ⊎ (test x ≡ true)
any_end test [] x e = or_cases_end (test x) e
  where
    or_cases_end : (b : Bool) → (b || false) ≡ true → (false ≡ true) ⊎ (b ≡ true)
    or_cases_end true e = inr refl
    or_cases_end false e = inl e
any_end test (y ∷ xs) x e = go (or_cases (test y) (list_any test (xs ++ x ∷ [])) e) (any_end test xs x)
  where
    go : (test y ≡ true) ⊎ (list_any test (xs ++ x ∷ []) ≡ true) → (list_any test (xs ++ x ∷ []) ≡ true → (list_any test xs ≡ true) ⊎ (test x ≡ true))
        → (list_any test (y ∷ xs) ≡ true) ⊎ (test x ≡ true)
    go (inl f) rest = inl (or_left (test y) (list_any test xs) f)
    go (inr f) rest = elim (rest f) [ inl g ↦ inl (or_right (test y) (list_any test xs) g) | inr g ↦ inr g ]

pub any_mapped : {A : Type 0} (test after : A → Bool) (change : A → A) (xs : List A) → ((x : A) → test x ≡ true → after (change x) ≡ true)
    → list_any test xs ≡ true → list_any after (map change xs) ≡ true
any_mapped test after change [] k e = absurd (cc)
any_mapped test after change (x ∷ xs) k e = go (test x) refl (any_mapped test after change xs k)
  where
    go : (b : Bool) → test x ≡ b → (list_any test xs ≡ true → list_any after (map change xs) ≡ true) → list_any after (map change (x ∷ xs)) ≡ true
    go true f rest = or_left (after (change x)) (list_any after (map change xs)) (k x f)
    go false f rest = or_right (after (change x)) (list_any after (map change xs)) (rest (rw f at e))

pub any_weaker : {A : Type 0} (test weaker : A → Bool) (xs : List A) → ((x : A) → test x ≡ true → weaker x ≡ true) → list_any test xs ≡ true
    → list_any weaker xs ≡ true
any_weaker test weaker [] k e = e
any_weaker test weaker (x ∷ xs) k e = go (test x) refl (any_weaker test weaker xs k)
  where
    go : (b : Bool) → test x ≡ b → (list_any test xs ≡ true → list_any weaker xs ≡ true) → list_any weaker (x ∷ xs) ≡ true
    go true f rest = or_left (weaker x) (list_any weaker xs) (k x f)
    go false f rest = or_right (weaker x) (list_any weaker xs) (rest (rw f at e))

-- ---- no element that passes a test

pub find_none_end : {A : Type 0} (test : A → Bool) (xs : List A) (x : A) → find test xs ≡ None → test x ≡ false → find test (xs ++ x ∷ []) ≡ None
find_none_end test [] x e f = rw f refl
find_none_end test (y ∷ xs) x e f = go (test y) refl (λ later. find_none_end test xs x later f)
  where
    go : (b : Bool) → test y ≡ b → (find test xs ≡ None → find test (xs ++ x ∷ []) ≡ None) → find test (y ∷ (xs ++ x ∷ [])) ≡ None
    go true g rest = let found = rw g at e in absurd (cc)
    go false g rest = rw g (rest (rw g at e))

pub find_none_mapped : {A : Type 0} (test : A → Bool) (change : A → A) (xs : List A) → ((x : A) → test x ≡ false → test (change x) ≡ false)
    → find test xs ≡ None → find test (map change xs) ≡ None
find_none_mapped test change [] k e = refl
find_none_mapped test change (y ∷ xs) k e = go (test y) refl (find_none_mapped test change xs k)
  where
    go : (b : Bool) → test y ≡ b → (find test xs ≡ None → find test (map change xs) ≡ None) → find test (map change (y ∷ xs)) ≡ None
    go true g rest = let found = rw g at e in absurd (cc)
    go false g rest = rw (k y g) (rest (rw g at e))

pub find_passes : {A : Type 0} (test : A → Bool) (xs : List A) (x : A) → find test xs ≡ Some x → test x ≡ true
find_passes test [] x e = absurd (cc)
find_passes test (y ∷ xs) x e = go (test y) refl (find_passes test xs x)
  where
    go : (b : Bool) → test y ≡ b → (find test xs ≡ Some x → test x ≡ true) → test x ≡ true
    go true f rest = let g = rw f at e in let same : y ≡ x = cc in subst (λ z. test z ≡ true) same f
    go false f rest = rest (rw f at e)
