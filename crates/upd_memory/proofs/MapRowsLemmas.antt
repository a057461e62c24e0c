-- The rows of a map, one key after the other, are those of the table.
use Rattle.upd_memory.proofs.Common.{◌≡◌, ◌+◌, Bool, true, false, not, cond, List, [], ◌∷◌, ◌++◌, Option, None, Some, refl, ap}
use Rattle.upd_memory.proofs.Common.{sym, ◌∙◌, subst, arith, append-nil, ◌&&◌, BTreeMap, IsOrdered, get, is_at, IsTotalOrder, tied_itself, AllByRecursion}
use Rattle.upd_memory.proofs.Common.{count_by, filter, flat_map, IsStrictlySortedBy, keys_of, lookup, option_map_or, is_eq, Ordering, Less, Equal, Greater}
use Rattle.upd_memory.proofs.Common.{filter-append, recursion_from_All, sorted_head, sorted_tail, CmpEqualImpliesEq, All-found, filter_twice, same_by_key}
use Rattle.upd_memory.proofs.Common.{count_cons, same_of, IsSame}
use Rattle.upd_records.proofs.CountLemmas.{count_filter}
use Rattle.upd_memory.proofs.KeyedLemmas.{filter_alike, not_true}

-- a test that none fails keeps all
none_fails : {A : Type 0} (test : A → Bool) (xs : List A) → count_by (λ x. not (test x)) xs ≡ 0 → filter test xs ≡ xs
none_fails test [] none = refl
none_fails {A} test (x ∷ xs) none = go (test x) refl (none_fails test xs)
  where
    go : (b : Bool) → test x ≡ b → (count_by (λ y. not (test y)) xs ≡ 0 → filter test xs ≡ xs) → cond b (x ∷ filter test xs) (filter test xs) ≡ x ∷ xs
    go true e rest = ap (λ ys. x ∷ ys) (rest (let more : count_by (λ y. not (test y)) (x ∷ xs) ≡ 0 + count_by (λ y. not (test y)) xs =
        count_cons (λ y. not (test y)) x xs ∙ ap (λ b. cond (not b) 1 0 + count_by (λ y. not (test y)) xs) e in omega (arith, more, none)))
    go false e rest = absurd (let more : count_by (λ y. not (test y)) (x ∷ xs) ≡ 1 + count_by (λ y. not (test y)) xs =
        count_cons (λ y. not (test y)) x xs ∙ ap (λ b. cond (not b) 1 0 + count_by (λ y. not (test y)) xs) e in omega (arith, more, none))

count_none : {A : Type 0} (test : A → Bool) (xs : List A) → ((x : A) → test x ≡ false) → count_by test xs ≡ 0
count_none test [] none = refl
count_none test (x ∷ xs) none = count_cons test x xs ∙ ap (λ b. cond b 1 0 + count_by test xs) (none x)
    ∙ (let rest = count_none test xs none in omega (arith, rest))

-- rows that are as often as those with a key all have it
pub own_key : {A : Type 0} (has : A → Bool) (xs ys : List A) → IsSame xs (filter has ys) → filter has xs ≡ xs
own_key has xs ys same =
    none_fails has xs (same.passes (λ x. not (has x)) ∙ count_filter (λ x. not (has x)) has ys
    ∙ count_none (λ x. has x && not (has x)) ys (λ x. apart (has x)))
  where
    apart : (b : Bool) → (b && not b) ≡ false
    apart true = refl
    apart false = refl

-- ---- lists that have the same rows at each key

-- what a test keeps is nothing where only those pass that another test does not keep
pub none_both : {A : Type 0} (f g : A → Bool) (xs : List A) → ((x : A) → g x ≡ true → f x ≡ false) → filter f (filter g xs) ≡ []
none_both f g [] apart = refl
none_both {A} f g (x ∷ xs) apart = go (g x) refl (none_both f g xs apart)
  where
    go : (b : Bool) → g x ≡ b → filter f (filter g xs) ≡ [] → filter f (cond b (x ∷ filter g xs) (filter g xs)) ≡ []
    go true e rest = ap (λ t. cond t (x ∷ filter f (filter g xs)) (filter f (filter g xs))) (apart x e) ∙ rest
    go false e rest = rest

-- the same either way
same_either : {A : Type 0} (b : Bool) (x : A) → x ≡ cond b x x
same_either true x = refl
same_either false x = refl

-- ---- the entries of a map

is_equal : (o : Ordering) → is_eq o ≡ true → o ≡ Equal
is_equal Less e = absurd (cc)
is_equal Equal e = refl
is_equal Greater e = absurd (cc)

module _ {K V R : Type 0} {cmp : K → K → Ordering} (total : IsTotalOrder cmp) (exact : CmpEqualImpliesEq cmp) (key : R → K) (has : K → R → Bool)
    (is : (k : K) (r : R) → has k r ≡ is_eq (cmp k (key r))) (rows : K → V → List R) where
  has_one : (k : K) (r : R) → has k r ≡ true → k ≡ key r
  has_one k r e = exact k (key r) (is_equal (cmp k (key r)) (sym (is k r) ∙ e))

  has_own : (r : R) → has (key r) r ≡ true
  has_own r = is (key r) r ∙ ap is_eq (tied_itself total (key r))

  -- no later key is that of the first entry
  none_later : (k : K) (e : K × V) (es : List (K × V)) → k ≡ e.0 → AllByRecursion (λ y. cmp e.0 y ≡ Less) (keys_of es)
      → lookup (is_at (cmp k)) es ≡ None
  none_later k e [] one above = refl
  none_later k e (f ∷ es) one above =
      ap (λ b. cond b (Some f.1) (lookup (is_at (cmp k)) es)) (ap (λ j. is_eq (cmp j f.0)) one ∙ ap is_eq above.0) ∙ none_later k e es one above.1

  pub flat_at : (p : K → Bool) (k : K) (es : List (K × V)) → IsStrictlySortedBy cmp (keys_of es)
      → AllByRecursion (λ e. filter (has e.0) (rows e.0 e.1) ≡ rows e.0 e.1) es
      → filter (has k) (flat_map (λ e. cond (p e.0) (rows e.0 e.1) []) es) ≡ cond (p k) (option_map_or (rows k) (lookup (is_at (cmp k)) es) []) []
  flat_at p k [] up own = same_either (p k) []
  flat_at p k (e ∷ es) up own =
      filter-append (has k) (cond (p e.0) (rows e.0 e.1) []) (flat_map (λ f. cond (p f.0) (rows f.0 f.1) []) es)
      ∙ ap (λ zs. filter (has k) (cond (p e.0) (rows e.0 e.1) []) ++ zs) (flat_at p k es (sorted_tail cmp e.0 (keys_of es) up) own.1)
      ∙ go (is_eq (cmp k e.0)) refl
    where
      later : Option V
      later = lookup (is_at (cmp k)) es

      kept : (b : Bool) (xs : List R) → filter (has k) xs ≡ xs → filter (has k) (cond b xs []) ≡ cond b xs []
      kept true xs all = all
      kept false xs all = refl

      gone : (b : Bool) (xs : List R) → filter (has k) xs ≡ [] → filter (has k) (cond b xs []) ≡ []
      gone true xs none = none
      gone false xs none = refl

      nothing_more : (b : Bool) (xs : List R) → cond b xs [] ++ cond b [] [] ≡ cond b xs []
      nothing_more true xs = append-nil xs
      nothing_more false xs = refl

      here : k ≡ e.0 → filter (has k) (cond (p e.0) (rows e.0 e.1) []) ≡ cond (p k) (rows k e.1) []
      here one = kept (p e.0) (rows e.0 e.1) (ap (λ j. filter (has j) (rows e.0 e.1)) one ∙ own.0)
          ∙ ap (λ j. cond (p j) (rows j e.1) []) (sym one)

      go : (b : Bool) → is_eq (cmp k e.0) ≡ b
          → filter (has k) (cond (p e.0) (rows e.0 e.1) []) ++ cond (p k) (option_map_or (rows k) (lookup (is_at (cmp k)) es) []) []
          ≡ cond (p k) (option_map_or (rows k) (cond b (Some e.1) (lookup (is_at (cmp k)) es)) []) []
      go true q =
          let one : k ≡ e.0 = exact k e.0 (is_equal (cmp k e.0) q) in
          (λ i. here one i ++ cond (p k) (option_map_or (rows k) (none_later k e es one (sorted_head cmp e.0 (keys_of es) up) i) []) [])
          ∙ nothing_more (p k) (rows k e.1)
      go false q =
          ap (λ zs. zs ++ cond (p k) (option_map_or (rows k) (lookup (is_at (cmp k)) es) []) [])
          (gone (p e.0) (rows e.0 e.1) (ap (filter (has k)) (sym own.0)
          ∙ none_both (has k) (has e.0) (rows e.0 e.1) (λ r hit. miss r hit (has k r) refl)))
        where
          miss : (r : R) → has e.0 r ≡ true → (b : Bool) → has k r ≡ b → b ≡ false
          miss r hit true both =
              not_true (is_eq (cmp k e.0)) (ap (λ j. is_eq (cmp k j)) (has_one e.0 r hit ∙ sym (has_one k r both)) ∙ ap is_eq (tied_itself total k)) q
          miss r hit false both = refl

  -- the rows under some keys are those of the table with these keys
  pub flat_same : (p : K → Bool) (m : BTreeMap K V) (all : List R) → IsOrdered cmp m
      → ((k : K) → IsSame (option_map_or (rows k) (get cmp m k) []) (filter (has k) all))
      → IsSame (flat_map (λ e. cond (p e.0) (rows e.0 e.1) []) m.entries) (filter (λ r. p (key r)) all)
  flat_same p m all up are = same_by_key has key has_own _ _ each
    where
      own : (es : List (K × V)) → AllByRecursion (λ e. get cmp m e.0 ≡ Some e.1) es
          → AllByRecursion (λ e. filter (has e.0) (rows e.0 e.1) ≡ rows e.0 e.1) es
      own [] found = tt
      own (e ∷ es) found = (
        own_key (has e.0) (rows e.0 e.1) all (subst (λ o. IsSame (option_map_or (rows e.0) o []) (filter (has e.0) all)) found.0 (are e.0)),
        own es found.1,
      )

      each : (k : K) → IsSame (filter (has k) (flat_map (λ e. cond (p e.0) (rows e.0 e.1) []) m.entries)) (filter (has k) (filter (λ r. p
          (key r)) all))
      each k = subst (λ zs. IsSame zs (filter (has k) (filter (λ r. p (key r)) all)))
          (sym (flat_at p k m.entries up (own m.entries (recursion_from_All _ _ (All-found total m up)))))
          (subst (IsSame (cond (p k) (option_map_or (rows k) (get cmp m k) []) [])) (sym (filter_twice (has k) (λ r. p (key r)) all
          ∙ filter_alike (λ r. p (key r)) (has k) (p k) (λ r hit. ap p (sym (has_one k r hit))) all))
          (go (p k)))
        where
          go : (b : Bool) → IsSame (cond b (option_map_or (rows k) (get cmp m k) []) []) (cond b (filter (has k) all) [])
          go true = are k
          go false = same_of [] [] refl

  pub all_same : (m : BTreeMap K V) (all : List R) → IsOrdered cmp m
      → ((k : K) → IsSame (option_map_or (rows k) (get cmp m k) []) (filter (has k) all))
      → IsSame (flat_map (λ e. rows e.0 e.1) m.entries) all
  all_same m all up are = subst (IsSame (flat_map (λ e. rows e.0 e.1) m.entries)) (filter_all all) (flat_same (λ k. true) m all up are)
    where
      filter_all : (xs : List R) → filter (λ r. true) xs ≡ xs
      filter_all [] = refl
      filter_all (x ∷ xs) = ap (λ ys. x ∷ ys) (filter_all xs)
