-- Rows that are kept under keys stay those of a table when both change in the same way.
use Rattle.upd_memory.proofs.Common.{◌≡◌, Bool, true, false, not, cond, List, [], ◌∷◌, ◌++◌, map, refl, ap, sym, ◌∙◌, subst, append-nil, ℕ, ◌+◌, ◌<◌, get_or}
use Rattle.upd_memory.proofs.Common.{length, take, ◌&&◌, ◌||◌, filter, list_any, map-append, filter-append, same_append, same_of, IsSame}
use Rattle.std.proofs.Common.{append_assoc}
use Rattle.std.proofs.lemmas.List.{take_more}

-- ---- lists

pub not_true : {P : Type 0} (b : Bool) → b ≡ true → b ≡ false → P
not_true b hit miss = absurd (let clash : true ≡ false = sym hit ∙ miss in cc)

-- the rows that pass a test, of rows that none of which go
pub all_stay : {A : Type 0} (test gone : A → Bool) (xs : List A) → ((x : A) → test x ≡ true → gone x ≡ false)
    → filter test (filter (λ x. not (gone x)) xs) ≡ filter test xs
all_stay test gone [] stay = refl
all_stay {A} test gone (x ∷ xs) stay = go (test x) (gone x) refl refl (all_stay test gone xs stay)
  where
    go : (t g : Bool) → test x ≡ t → gone x ≡ g → filter test (filter (λ y. not (gone y)) xs) ≡ filter test xs
        → filter test (cond (not g) (x ∷ filter (λ y. not (gone y)) xs) (filter (λ y. not (gone y)) xs))
        ≡ cond t (x ∷ filter test xs) (filter test xs)
    go true true is goes rest = not_true (gone x) goes (stay x is)
    go true false is goes rest = ap (λ t. cond t (x ∷ filter test (filter (λ y. not (gone y)) xs)) (filter test (filter (λ y. not (gone y)) xs))) is
        ∙ ap (λ ys. x ∷ ys) rest
    go false true is goes rest = rest
    go false false is goes rest =
        ap (λ t. cond t (x ∷ filter test (filter (λ y. not (gone y)) xs)) (filter test (filter (λ y. not (gone y)) xs))) is ∙ rest

-- none are left of the rows that pass a test where these go
pub all_go : {A : Type 0} (test gone : A → Bool) (xs : List A) → ((x : A) → test x ≡ true → gone x ≡ true)
    → filter test (filter (λ x. not (gone x)) xs) ≡ []
all_go test gone [] goes = refl
all_go {A} test gone (x ∷ xs) goes = go (test x) (gone x) refl refl (all_go test gone xs goes)
  where
    go : (t g : Bool) → test x ≡ t → gone x ≡ g → filter test (filter (λ y. not (gone y)) xs) ≡ []
        → filter test (cond (not g) (x ∷ filter (λ y. not (gone y)) xs) (filter (λ y. not (gone y)) xs)) ≡ []
    go t true is gone_too rest = rest
    go true false is stays rest = not_true (gone x) (goes x is) stays
    go false false is stays rest =
        ap (λ t. cond t (x ∷ filter test (filter (λ y. not (gone y)) xs)) (filter test (filter (λ y. not (gone y)) xs))) is ∙ rest

-- where none of the rows that pass a test go
pub apart_stay : {A : Type 0} (test gone : A → Bool) (xs : List A) → list_any (λ x. test x && gone x) xs ≡ false
    → filter test (filter (λ x. not (gone x)) xs) ≡ filter test xs
apart_stay test gone [] apart = refl
apart_stay {A} test gone (x ∷ xs) apart = go (test x) (gone x) refl refl apart (apart_stay test gone xs)
  where
    Stay : Type 0
    Stay = filter test (filter (λ y. not (gone y)) xs) ≡ filter test xs

    go : (t g : Bool) → test x ≡ t → gone x ≡ g → ((t && g) || list_any (λ y. test y && gone y) xs) ≡ false
        → (list_any (λ y. test y && gone y) xs ≡ false → Stay)
        → filter test (cond (not g) (x ∷ filter (λ y. not (gone y)) xs) (filter (λ y. not (gone y)) xs))
        ≡ cond t (x ∷ filter test xs) (filter test xs)
    go true true is goes none rest = absurd (cc)
    go true false is goes none rest = ap (λ t. cond t (x ∷ filter test (filter (λ y. not (gone y)) xs)) (filter test (filter (λ y. not
        (gone y)) xs))) is
        ∙ ap (λ ys. x ∷ ys) (rest none)
    go false true is goes none rest = rest none
    go false false is goes none rest =
        ap (λ t. cond t (x ∷ filter test (filter (λ y. not (gone y)) xs)) (filter test (filter (λ y. not (gone y)) xs))) is ∙ rest none

-- where a test says the same of all that another keeps
pub filter_alike : {A : Type 0} (test has : A → Bool) (b : Bool) → ((x : A) → has x ≡ true → test x ≡ b) → (xs : List A)
    → filter test (filter has xs) ≡ cond b (filter has xs) []
filter_alike test has true alike [] = refl
filter_alike test has false alike [] = refl
filter_alike {A} test has b alike (x ∷ xs) = go (has x) refl (filter_alike test has b alike xs)
  where
    both : (b : Bool) → cond b (x ∷ cond b (filter has xs) []) (cond b (filter has xs) []) ≡ cond b (x ∷ filter has xs) []
    both true = refl
    both false = refl

    go : (h : Bool) → has x ≡ h → filter test (filter has xs) ≡ cond b (filter has xs) []
        → filter test (cond h (x ∷ filter has xs) (filter has xs)) ≡ cond b (cond h (x ∷ filter has xs) (filter has xs)) []
    go false hit rest = rest
    go true hit rest = ap (λ t. cond t (x ∷ filter test (filter has xs)) (filter test (filter has xs))) (alike x hit)
        ∙ ap (λ zs. cond b (x ∷ zs) zs) rest ∙ both b

-- rows with one more
pub filter_end : {A : Type 0} (test : A → Bool) (xs : List A) (x : A) → filter test (xs ++ x ∷ []) ≡ filter test xs ++ cond (test x) (x ∷ []) []
filter_end test xs x = filter-append test xs (x ∷ [])

pub any_gone : {A : Type 0} (test gone : A → Bool) (xs : List A) → ((x : A) → test x ≡ true → gone x ≡ true)
    → list_any test (filter (λ x. not (gone x)) xs) ≡ false
any_gone test gone xs goes = left (filter (λ x. not (gone x)) xs) (all_go test gone xs goes)
  where
    left : (ys : List _) → filter test ys ≡ [] → list_any test ys ≡ false
    left [] none = refl
    left (y ∷ ys) none = go (test y) refl (left ys)
      where
        go : (b : Bool) → test y ≡ b → (filter test ys ≡ [] → list_any test ys ≡ false) → (test y || list_any test ys) ≡ false
        go true is rest = absurd (let clash : y ∷ filter test ys ≡ [] = sym (ap (λ b. cond b (y ∷ filter test ys) (filter test ys)) is) ∙ none in cc)
        go false is rest = ap (λ b. b || list_any test ys) is
            ∙ rest (sym (ap (λ b. cond b (y ∷ filter test ys) (filter test ys)) is) ∙ none)

pub any_stays : {A : Type 0} (test gone : A → Bool) (xs : List A) → ((x : A) → test x ≡ true → gone x ≡ false)
    → list_any test (filter (λ x. not (gone x)) xs) ≡ list_any test xs
any_stays test gone [] stay = refl
any_stays {A} test gone (x ∷ xs) stay = go (test x) (gone x) refl refl (any_stays test gone xs stay)
  where
    go : (t g : Bool) → test x ≡ t → gone x ≡ g → list_any test (filter (λ y. not (gone y)) xs) ≡ list_any test xs
        → list_any test (cond (not g) (x ∷ filter (λ y. not (gone y)) xs) (filter (λ y. not (gone y)) xs)) ≡ (t || list_any test xs)
    go true true is goes rest = not_true (gone x) goes (stay x is)
    go t false is stays rest = (λ i. is i || rest i)
    go false true is goes rest = rest

pub any_mapped : {A : Type 0} (test : A → Bool) (f : A → A) (xs : List A) → ((x : A) → test (f x) ≡ test x)
    → list_any test (map f xs) ≡ list_any test xs
any_mapped test f [] same = refl
any_mapped test f (x ∷ xs) same = λ i. same x i || any_mapped test f xs same i

pub filter_mapped : {A : Type 0} (test : A → Bool) (f : A → A) (xs : List A) → ((x : A) → test (f x) ≡ test x)
    → filter test (map f xs) ≡ map f (filter test xs)
filter_mapped test f [] same = refl
filter_mapped {A} test f (x ∷ xs) same =
    ap (λ b. cond b (f x ∷ filter test (map f xs)) (filter test (map f xs))) (same x) ∙ go (test x) (filter_mapped test f xs same)
  where
    go : (b : Bool) → filter test (map f xs) ≡ map f (filter test xs)
        → cond b (f x ∷ filter test (map f xs)) (filter test (map f xs)) ≡ map f (cond b (x ∷ filter test xs) (filter test xs))
    go true rest = ap (λ ys. f x ∷ ys) rest
    go false rest = rest

-- ---- rows under keys

module _ {K R : Type 0} (has : K → R → Bool) where
  -- at each key are the rows of a table that have it
  abbrev pub AreAt : (K → List R) → List R → Type 0
  AreAt at all = (k : K) → IsSame (at k) (filter (has k) all)

  -- one row more
  pub one_more : (old new : K → List R) (all : List R) (r : R) → ((k : K) → new k ≡ cond (has k r) (old k ++ r ∷ []) (old k)) → AreAt old all
      → AreAt new (all ++ r ∷ [])
  one_more old new all r put are k =
      subst (λ xs. IsSame xs (filter (has k) (all ++ r ∷ []))) (sym (put k)) (subst (IsSame (cond (has k r) (old k ++ r ∷ []) (old k)))
      (sym (filter_end (has k) all r)) (go (has k r)))
    where
      go : (b : Bool) → IsSame (cond b (old k ++ r ∷ []) (old k)) (filter (has k) all ++ cond b (r ∷ []) [])
      go true = same_append (are k) (same_of (r ∷ []) (r ∷ []) refl)
      go false = subst (λ xs. IsSame (old k) xs) (sym (append-nil (filter (has k) all))) (are k)

  -- the rows of some keys go
  pub some_gone : (old new : K → List R) (all : List R) (gone : R → Bool) (hit : K → Bool) → ((k : K) (r : R) → has k r ≡ true → gone r ≡ hit k)
      → ((k : K) → new k ≡ cond (hit k) [] (old k)) → AreAt old all → AreAt new (filter (λ r. not (gone r)) all)
  some_gone old new all gone hit alike left are k =
      subst (λ xs. IsSame xs (filter (has k) (filter (λ r. not (gone r)) all))) (sym (left k)) (go (hit k) refl)
    where
      go : (b : Bool) → hit k ≡ b → IsSame (cond b [] (old k)) (filter (has k) (filter (λ r. not (gone r)) all))
      go true e = same_of [] _ (sym (all_go (has k) gone all (λ r is. alike k r is ∙ e)))
      go false e = subst (IsSame (old k)) (sym (all_stay (has k) gone all (λ r is. alike k r is ∙ e))) (are k)

-- ---- one row after the other

pub one_made : {A B : Type 0} (f : A → B) (front : List B) (xs : List A) (i : ℕ) (x : A) → i < length xs → x ≡ get_or xs i x
    → (front ++ map f (take i xs)) ++ f x ∷ [] ≡ front ++ map f (take (i + 1) xs)
one_made f front xs i x inside is =
    append_assoc front (map f (take i xs)) (f x ∷ [])
    ∙ ap (λ ys. front ++ ys) (sym (map-append f (take i xs) (x ∷ [])) ∙ ap (map f) (ap (λ y. take i xs ++ y ∷ []) is ∙ sym (take_more xs i x inside)))
