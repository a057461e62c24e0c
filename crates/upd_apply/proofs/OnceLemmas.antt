-- A list without repetitions, as a loop finds it: an element is appended unless it is there.
use Rattle.upd_apply.proofs.Common.{◌≡◌, ℕ, ◌+◌, ◌<◌, map, length, drop, get_or, Bool, true, false, not, ◌&&◌, if◌then◌else◌, List, [], ◌∷◌, ◌++◌, Ok, Err}
use Rattle.upd_apply.proofs.Common.{refl, ap, sym, ◌∙◌, subst, append_assoc, filter, list_any, drop_more, ◌>>=◌, each, once}
use Rattle.std.proofs.Common.{◌||◌, Result, append-nil}
use Rattle.std.proofs.lemmas.List.Folds.{list_any-append}

-- elements that are the same by the test are equal
abbrev pub AreEqual : {A : Type 0} → (A → A → Bool) → Type 0
AreEqual {A} same = (x y : A) → same x y ≡ true → x ≡ y

abbrev unlike : {A : Type 0} → (A → A → Bool) → List A → A → Bool
unlike same found y = not (list_any (λ x. same x y) found)

-- a list with one more element, if it isn't there
abbrev pub with_one : {A : Type 0} → (A → A → Bool) → List A → A → List A
with_one same found x = if list_any (λ y. same y x) found then found else found ++ x ∷ []

-- a list with these elements, one after the other
abbrev with_all : {A : Type 0} → (A → A → Bool) → List A → List A → List A
with_all same found [] = found
with_all same found (x ∷ xs) = with_all same (with_one same found x) xs

-- ---- filters

filter_twice : {A : Type 0} (p q r : A → Bool) (xs : List A) → ((x : A) → r x ≡ (q x && p x)) → filter p (filter q xs) ≡ filter r xs
filter_twice p q r [] e = refl
filter_twice {A} p q r (x ∷ xs) e = of (q x) (p x) (r x) (e x) refl (filter_twice p q r xs e)
  where
    of : (c b d : Bool) → d ≡ (c && b) → p x ≡ b → filter p (filter q xs) ≡ filter r xs
        → filter p (if c then x ∷ filter q xs else filter q xs) ≡ (if d then x ∷ filter r xs else filter r xs)
    of false b d is at rest = rw is rest
    of true true d is at rest = rw (is, at) (ap (λ ys. x ∷ ys) rest)
    of true false d is at rest = rw (is, at) rest

filter_all : {A : Type 0} (xs : List A) → filter (λ _. true) xs ≡ xs
filter_all [] = refl
filter_all (x ∷ xs) = ap (λ ys. x ∷ ys) (filter_all xs)

-- ---- one after the other

-- where y is there already, what is like y is, too
found_before : {A : Type 0} (same : A → A → Bool) → AreEqual same → (found : List A) (y z : A) → list_any (λ x. same x y) found ≡ true
    → unlike same found z ≡ (not (same y z) && unlike same found z)
found_before {A} same equal found y z there = of (same y z) refl
  where
    of : (b : Bool) → same y z ≡ b → unlike same found z ≡ (not b && unlike same found z)
    of false e = refl
    of true e = ap not (subst (λ w. list_any (λ x. same x w) found ≡ true) (equal y z e) there)

found_now : {A : Type 0} (same : A → A → Bool) (found : List A) (y z : A)
    → unlike same (found ++ y ∷ []) z ≡ (not (same y z) && unlike same found z)
found_now same found y z = ap not (list_any-append (λ x. same x z) found (y ∷ [])) ∙ of (list_any (λ x. same x z) found) (same y z)
  where
    of : (a b : Bool) → not (a || (b || false)) ≡ (not b && not a)
    of true true = refl
    of true false = refl
    of false true = refl
    of false false = refl

all_once : {A : Type 0} (same : A → A → Bool) → AreEqual same → (found ys : List A)
    → with_all same found ys ≡ found ++ filter (unlike same found) (once same ys)
all_once same equal found [] = sym (append-nil found)
all_once {A} same equal found (y ∷ ys) = of (list_any (λ x. same x y) found) refl (λ now. all_once same equal now ys)
  where
    of : (b : Bool) → list_any (λ x. same x y) found ≡ b → ((now : List A) → with_all same now ys ≡ now ++ filter (unlike same now) (once same ys))
        → with_all same (if b then found else found ++ y ∷ []) ys
        ≡ found ++ (if not b then y ∷ filter (unlike same found) (filter (λ z. not (same y z)) (once same ys))
        else filter (unlike same found) (filter (λ z. not (same y z)) (once same ys)))
    of true e rest =
        rest found
        ∙ ap (λ zs. found ++ zs) (sym (filter_twice (unlike same found) (λ z. not (same y z)) (unlike same found) (once same ys)
        (λ z. found_before same equal found y z e)))
    of false e rest =
        rest (found ++ y ∷ []) ∙ append_assoc found (y ∷ []) (filter (unlike same (found ++ y ∷ [])) (once same ys))
        ∙ ap (λ zs. found ++ y ∷ zs) (sym (filter_twice (unlike same found) (λ z. not (same y z)) (unlike same (found ++ y ∷ [])) (once same ys)
        (found_now same found y)))

from_none : {A : Type 0} (same : A → A → Bool) → AreEqual same → (ys : List A) → with_all same [] ys ≡ once same ys
from_none same equal ys = all_once same equal [] ys ∙ filter_all (once same ys)

all_append : {A : Type 0} (same : A → A → Bool) (found xs ys : List A) → with_all same found (xs ++ ys) ≡ with_all same (with_all same found xs) ys
all_append same found [] ys = refl
all_append same found (x ∷ xs) ys = all_append same (with_one same found x) xs ys

once-append : {A : Type 0} (same : A → A → Bool) → AreEqual same → (xs ys : List A) → once same (xs ++ ys) ≡ with_all same (once same xs) ys
once-append same equal xs ys = sym (from_none same equal (xs ++ ys)) ∙ all_append same [] xs ys ∙ ap (λ zs. with_all same zs ys) (from_none same equal xs)

-- ---- what a loop has found

-- one more element is appended, unless it is there
pub one_more : {A : Type 0} (same : A → A → Bool) → AreEqual same → (found now : List A) (x : A) → once same found ≡ found
    → now ≡ with_one same found x → now ≡ once same (found ++ x ∷ [])
one_more same equal found now x apart is = is ∙ sym (once-append same equal found (x ∷ []) ∙ ap (λ zs. with_one same zs x) apart)

-- appending to a list whose repetitions were removed finds the same as appending to the list itself
pub goes_on : {A : Type 0} (same : A → A → Bool) → AreEqual same → (found more now rest : List A) → now ≡ once same (found ++ more)
    → once same now ≡ now → once same (now ++ rest) ≡ once same (found ++ (more ++ rest))
goes_on same equal found more now rest is apart =
    once-append same equal now rest ∙ ap (λ zs. with_all same zs rest) (apart ∙ is) ∙ sym (once-append same equal (found ++ more) rest)
    ∙ ap (once same) (append_assoc found more rest)

one_apart : {A : Type 0} (same : A → A → Bool) → AreEqual same → (found : List A) (x : A) → once same found ≡ found
    → once same (with_one same found x) ≡ with_one same found x
one_apart same equal found x apart = of (list_any (λ y. same y x) found) refl
  where
    of : (b : Bool) → list_any (λ y. same y x) found ≡ b → once same (if b then found else found ++ x ∷ []) ≡ (if b then found else found ++ x ∷ [])
    of true e = apart
    of false e = sym (one_more same equal found (found ++ x ∷ []) x apart (rw e refl))

all_apart : {A : Type 0} (same : A → A → Bool) → AreEqual same → (found xs : List A) → once same found ≡ found
    → once same (with_all same found xs) ≡ with_all same found xs
all_apart same equal found [] apart = apart
all_apart same equal found (x ∷ xs) apart = all_apart same equal (with_one same found x) xs (one_apart same equal found x apart)

-- a list without repetitions is unchanged
pub once_once : {A : Type 0} (same : A → A → Bool) → AreEqual same → (now xs : List A) → now ≡ once same xs → once same now ≡ now
once_once same equal now xs is =
    let all : once same (with_all same [] xs) ≡ with_all same [] xs = all_apart same equal [] xs refl in
    let from : with_all same [] xs ≡ now = from_none same equal xs ∙ sym is in
    subst (λ zs. once same zs ≡ zs) from all

-- ---- the turns of a loop over xs, at the element x

one_turn : {B E : Type 0} (same : B → B → Bool) → AreEqual same → (found more now : List B) (rest : Result (List B) E) → now ≡ once same (found ++ more)
    → rest >>= (λ last. Ok (once same (now ++ last))) ≡ (rest >>= (λ last. Ok (more ++ last))) >>= (λ last. Ok (once same (found ++ last)))
one_turn same equal found more now (Ok last) is = ap Ok (goes_on same equal found more now last is (once_once same equal now (found ++ more) is))
one_turn same equal found more now (Err e) is = refl

-- it returns more
pub once_more : {A B E : Type 0} (same : B → B → Bool) → AreEqual same → (f : A → Result (List B) E) (xs : List A) (i : ℕ) (x : A)
    (found now more : List B) (whole : Result (List B) E) → i < length xs → x ≡ get_or xs i x → f x ≡ Ok more → now ≡ once same (found ++ more)
    → each f (drop i xs) >>= (λ last. Ok (once same (found ++ last))) ≡ whole
    → each f (drop (i + 1) xs) >>= (λ last. Ok (once same (now ++ last))) ≡ whole
once_more same equal f xs i x found now more whole within read gives is so_far =
    one_turn same equal found more now (each f (drop (i + 1) xs)) is
    ∙ sym (ap (λ r. (r >>= (λ more. each f (drop (i + 1) xs) >>= (λ last. Ok (more ++ last)))) >>= (λ last. Ok (once same (found ++ last)))) gives)
    ∙ sym (ap (λ ys. each f ys >>= (λ last. Ok (once same (found ++ last)))) (drop_more xs i x within ∙ ap (λ y. y ∷ drop (i + 1) xs) (sym read))) ∙ so_far

-- ---- the turn of a loop that adds f and g of the element x, if x passes the test

pub filter_once : {X Y A : Type 0} (same : A → A → Bool) → AreEqual same → (f : Y → A) (g : X → Y) (test : X → Bool) (xs : List X) (i : ℕ) (x : X)
    (found now whole : List A) (b : Bool) → i < length xs → x ≡ get_or xs i x → b ≡ test x
    → now ≡ (if b then once same (found ++ f (g x) ∷ []) else found)
    → once same (found ++ map f (map g (filter test (drop i xs)))) ≡ whole
    → once same (now ++ map f (map g (filter test (drop (i + 1) xs)))) ≡ whole
filter_once {X} {Y} {A} same equal f g test xs i x found now whole b within read passes is so_far =
    of b is ∙ ap (λ d. once same (found ++ map f (map g (if d then x ∷ filter test (drop (i + 1) xs) else filter test (drop (i + 1) xs))))) passes
    ∙ sym (ap (λ ys. once same (found ++ map f (map g (filter test ys)))) (drop_more xs i x within ∙ ap (λ y. y ∷ drop (i + 1) xs) (sym read))) ∙ so_far
  where
    of : (d : Bool) → now ≡ (if d then once same (found ++ f (g x) ∷ []) else found)
        → once same (now ++ map f (map g (filter test (drop (i + 1) xs))))
        ≡ once same (found ++ map f (map g (if d then x ∷ filter test (drop (i + 1) xs) else filter test (drop (i + 1) xs))))
    of true e =
        goes_on same equal found (f (g x) ∷ []) now (map f (map g (filter test (drop (i + 1) xs)))) e (once_once same equal now (found ++ f (g x) ∷ []) e)
    of false e = ap (λ ys. once same (ys ++ map f (map g (filter test (drop (i + 1) xs))))) e
