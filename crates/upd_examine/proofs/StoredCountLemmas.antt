-- Stored counts are those of a library exactly where they pass the tests of their targets.
use Rattle.upd_examine.proofs.Common.{◌≡◌, ℕ, ◌+◌, ◌≤◌, Bool, true, false, not, cond, if◌then◌else◌, List, [], ◌∷◌, map, length, refl, ap, sym, ◌∙◌, subst}
use Rattle.upd_examine.proofs.Common.{arith, ◌↔◌, ◌==◌, and_parts, and_from, eqb-true, eq-eqb, filter, list_all, list_any, AllByRecursion, same_target}
use Rattle.upd_examine.proofs.Common.{CardView, LibraryView, AreApart, count_in, live_count, is_same, Target, CacheView, IsRight, put_counts, AreCounts}
use Rattle.upd_examine.proofs.Common.{is_count, is_counted}
use Rattle.std.proofs.Common.{◌||◌}
use Rattle.upd_core.proofs.CountedLemmas.{target_same}
use Rattle.upd_core.specs.Status.{is_good, live_cards, targets_of}
use Rattle.upd_core.specs.TargetCounts.{count_on, has_target}
use Rattle.upd_yank.proofs.FlipLemmas.{count_cons}
use Rattle.upd_yank.proofs.RowLemmas.{count_put}
use Rattle.upd_yank.specs.Right.{count_pairs}

abbrev has : Target → Target × ℕ → Bool
has t p = is_same t p.0

-- ---- targets that differ

no_pair : (t : Target) (ps : List (Target × ℕ)) → AllByRecursion (λ u. t ≡ u → ⊥) (map (λ p. p.0) ps) → filter (has t) ps ≡ []
no_pair t [] apart = refl
no_pair t (p ∷ ps) apart = go (is_same t p.0) refl (no_pair t ps apart.1)
  where
    go : (b : Bool) → is_same t p.0 ≡ b → filter (has t) ps ≡ [] → cond (is_same t p.0) (p ∷ filter (has t) ps) (filter (has t) ps) ≡ []
    go true e later = absurd (apart.0 (same_target t p.0 e))
    go false e later = ap (λ b. cond b (p ∷ filter (has t) ps) (filter (has t) ps)) e ∙ later

pair_none : (t : Target) (ps : List (Target × ℕ)) → filter (has t) ps ≡ [] → AllByRecursion (λ u. t ≡ u → ⊥) (map (λ p. p.0) ps)
pair_none t [] none = tt
pair_none t (p ∷ ps) none = go (is_same t p.0) refl none (pair_none t ps)
  where
    go : (b : Bool) → is_same t p.0 ≡ b → cond b (p ∷ filter (has t) ps) (filter (has t) ps) ≡ []
        → (filter (has t) ps ≡ [] → AllByRecursion (λ u. t ≡ u → ⊥) (map (λ p. p.0) ps)) → AllByRecursion (λ u. t ≡ u → ⊥) (map (λ p. p.0) (p ∷ ps))
    go true e f later = absurd (cc)
    go false e f later = ((λ same. let yes = subst (λ u. is_same t u ≡ true) same (target_same t) in absurd (cc)), later f)

-- pairs of which no two have one target, since none has two pairs
few_apart : (ps : List (Target × ℕ)) → ((t : Target) → length (filter (has t) ps) ≤ 1) → AreApart (map (λ p. p.0) ps)
few_apart [] few = tt
few_apart (p ∷ ps) few = (pair_none p.0 ps (nothing (filter (has p.0) ps) first), few_apart ps (λ t. later t (is_same t p.0) refl))
  where
    first : length (p ∷ filter (has p.0) ps) ≤ 1
    first = subst (λ b. length (cond b (p ∷ filter (has p.0) ps) (filter (has p.0) ps)) ≤ 1) (target_same p.0) (few p.0)

    nothing : (qs : List (Target × ℕ)) → length (p ∷ qs) ≤ 1 → qs ≡ []
    nothing [] less = refl
    nothing (q ∷ qs) less = absurd (omega arith)

    later : (t : Target) (b : Bool) → is_same t p.0 ≡ b → length (filter (has t) ps) ≤ 1
    later t true e =
        let more : length (p ∷ filter (has t) ps) ≤ 1 =
        subst (λ b. length (cond b (p ∷ filter (has t) ps) (filter (has t) ps)) ≤ 1) e (few t) in
        omega (arith, more)
    later t false e = subst (λ b. length (cond b (p ∷ filter (has t) ps) (filter (has t) ps)) ≤ 1) e (few t)

-- what holds of the pairs of each target holds of all
all_by_key : (test : Target × ℕ → Bool) (ps : List (Target × ℕ)) → ((t : Target) → list_all test (filter (has t) ps) ≡ true) → list_all test ps ≡ true
all_by_key test [] each = refl
all_by_key test (p ∷ ps) each = and_from (test p) (list_all test ps) first (all_by_key test ps (λ t. later t (is_same t p.0) refl))
  where
    first : test p ≡ true
    first =
        let own = subst (λ b. list_all test (cond b (p ∷ filter (has p.0) ps) (filter (has p.0) ps)) ≡ true) (target_same p.0) (each p.0) in
        let parts = and_parts (test p) (list_all test (filter (has p.0) ps)) own in
        parts.0

    later : (t : Target) (b : Bool) → is_same t p.0 ≡ b → list_all test (filter (has t) ps) ≡ true
    later t true e =
        let own = subst (λ b. list_all test (cond b (p ∷ filter (has t) ps) (filter (has t) ps)) ≡ true) e (each t) in
        let parts = and_parts (test p) (list_all test (filter (has t) ps)) own in
        parts.1
    later t false e = subst (λ b. list_all test (cond b (p ∷ filter (has t) ps) (filter (has t) ps)) ≡ true) e (each t)

all_true : {A : Type 0} (test : A → Bool) → ((x : A) → test x ≡ true) → (xs : List A) → list_all test xs ≡ true
all_true test each [] = refl
all_true test each (x ∷ xs) = and_from (test x) (list_all test xs) (each x) (all_true test each xs)

module _ (l : LibraryView) (cache : CacheView) (right : IsRight l cache) (stored : List (Target × ℕ)) where
  abbrev counts : List (Target × ℕ)
  counts = cache.counts

  -- ---- tests that are passed

  found : (t : Target) (ps : List (Target × ℕ)) → AreApart (map (λ p. p.0) ps) → list_all (is_count counts) ps ≡ true
      → list_any (has t) ps ≡ true → filter (has t) ps ≡ count_pairs t (live_count l t)
  found t [] apart each e = absurd (cc)
  found t (p ∷ ps) apart each e =
      let parts = and_parts (is_count counts p) (list_all (is_count counts) ps) each in
      go (is_same t p.0) refl e parts.0 (found t ps apart.1 parts.1)
    where
      pair : t ≡ p.0 → is_count counts p ≡ true → p ∷ [] ≡ count_pairs t (live_count l t)
      pair one is =
          let parts = and_parts (not (p.1 == 0)) (p.1 == count_in counts p.0) is in
          let n : p.1 ≡ live_count l t =
          eqb-true p.1 (count_in counts p.0) parts.1 ∙ right.count p.0 ∙ ap (live_count l) (sym one) in
          let some : (p.1 == 0) ≡ false = no (p.1 == 0) parts.0 in
          (λ i. (sym one i, p.1) ∷ []) ∙ sym (ap (λ b. if b then [] else (t, p.1) ∷ []) some) ∙ ap (count_pairs t) n
        where
          no : (b : Bool) → not b ≡ true → b ≡ false
          no true f = absurd (cc)
          no false f = refl

      go : (b : Bool) → is_same t p.0 ≡ b → (b || list_any (has t) ps) ≡ true → is_count counts p ≡ true
          → (list_any (has t) ps ≡ true → filter (has t) ps ≡ count_pairs t (live_count l t))
          → cond (is_same t p.0) (p ∷ filter (has t) ps) (filter (has t) ps) ≡ count_pairs t (live_count l t)
      go true f g is later =
          let one = same_target t p.0 f in
          let left : AllByRecursion (λ u. t ≡ u → ⊥) (map (λ p. p.0) ps) = subst (λ u. AllByRecursion (λ v. u ≡ v → ⊥) (map (λ p. p.0) ps)) (sym one) apart.0 in
          ap (λ b. cond b (p ∷ filter (has t) ps) (filter (has t) ps)) f ∙ ap (λ qs. p ∷ qs) (no_pair t ps left) ∙ pair one is
      go false f g is later = ap (λ b. cond b (p ∷ filter (has t) ps) (filter (has t) ps)) f ∙ later g

  missed : (t : Target) (ps : List (Target × ℕ)) → list_any (has t) ps ≡ false → filter (has t) ps ≡ []
  missed t [] e = refl
  missed t (p ∷ ps) e = go (is_same t p.0) refl e (missed t ps)
    where
      go : (b : Bool) → is_same t p.0 ≡ b → (b || list_any (has t) ps) ≡ false → (list_any (has t) ps ≡ false → filter (has t) ps ≡ [])
          → cond (is_same t p.0) (p ∷ filter (has t) ps) (filter (has t) ps) ≡ []
      go true f g later = absurd (cc)
      go false f g later = ap (λ b. cond b (p ∷ filter (has t) ps) (filter (has t) ps)) f ∙ later g

  -- a target that is not counted right is not one of those that are
  no_target : (t : Target) → is_counted counts stored t ≡ false → (ts : List Target) → list_all (is_counted counts stored) ts ≡ true
      → list_any (is_same t) ts ≡ false
  no_target t wrong [] all = refl
  no_target t wrong (u ∷ us) all =
      let parts = and_parts (is_counted counts stored u) (list_all (is_counted counts stored) us) all in
      go (is_same t u) refl parts.0 (no_target t wrong us parts.1)
    where
      go : (b : Bool) → is_same t u ≡ b → is_counted counts stored u ≡ true → list_any (is_same t) us ≡ false → (is_same t u || list_any (is_same t) us) ≡ false
      go true e is later =
          absurd (let other = subst (λ v. is_counted counts stored v ≡ false) (same_target t u e) wrong in let both = sym is ∙ other in cc)
      go false e is later = ap (λ b. b || list_any (is_same t) us) e ∙ later

  -- then no live yank card has it
  no_yank : (t : Target) → is_counted counts stored t ≡ false → (ys : List CardView) → list_all (λ c. list_all (is_counted counts stored) c.targets) ys ≡ true
      → count_on (live_cards ys) t ≡ 0
  no_yank t wrong [] all = refl
  no_yank t wrong (y ∷ ys) all =
      let parts = and_parts (list_all (is_counted counts stored) y.targets) (list_all (λ c. list_all (is_counted counts stored) c.targets) ys) all in
      go (is_good (targets_of (live_cards ys)) 0 y) (no_target t wrong y.targets parts.0) (no_yank t wrong ys parts.1)
    where
      go : (b : Bool) → has_target t y ≡ false → count_on (live_cards ys) t ≡ 0 → count_on (if b then y ∷ live_cards ys else live_cards ys) t ≡ 0
      go true none later =
          let here = count_cons y (live_cards ys) t ∙ ap (λ b. (if b then 1 else 0) + count_on (live_cards ys) t) none in
          omega (arith, here, later)
      go false none later = later

  from_tests : AreCounts counts stored l.yanks → (t : Target) → filter (has t) stored ≡ count_pairs t (live_count l t)
  from_tests are t = go (list_any (has t) stored) refl
    where
      without : filter (has t) stored ≡ [] → (b : Bool) → is_counted counts stored t ≡ b → live_count l t ≡ 0
      without none true e =
          sym (right.count t) ∙ sym (eqb-true (put_counts stored (λ _. 0) t) (count_in counts t) e) ∙ count_put stored (λ _. 0) t 0 refl none
      without none false e = no_yank t e l.yanks are.all

      go : (b : Bool) → list_any (has t) stored ≡ b → filter (has t) stored ≡ count_pairs t (live_count l t)
      go true e = found t stored are.apart are.each e
      go false e =
          let none = missed t stored e in
          none ∙ sym (ap (count_pairs t) (without none (is_counted counts stored t) refl))

  -- ---- counts that are right

  short : (t : Target) (n : ℕ) → length (count_pairs t n) ≤ 1
  short t n = go (n == 0)
    where
      go : (b : Bool) → length {A = Target × ℕ} (if b then [] else (t, n) ∷ []) ≤ 1
      go true = omega arith
      go false = omega arith

  counted : (t : Target) → list_all (is_count counts) (count_pairs t (live_count l t)) ≡ true
  counted t = go (live_count l t == 0) refl
    where
      go : (b : Bool) → (live_count l t == 0) ≡ b → list_all (is_count counts) (if b then [] else (t, live_count l t) ∷ []) ≡ true
      go true e = refl
      go false e =
          and_from (is_count counts (t, live_count l t)) true
          (and_from (not (live_count l t == 0)) (live_count l t == count_in counts t) (ap not e)
          (eq-eqb (live_count l t) (count_in counts t) (sym (right.count t))))
          refl

  to_tests : ((t : Target) → filter (has t) stored ≡ count_pairs t (live_count l t)) → AreCounts counts stored l.yanks
  to_tests each = record {
    apart = few_apart stored (λ t. subst (λ ps. length ps ≤ 1) (sym (each t)) (short t (live_count l t)));
    each = all_by_key (is_count counts) stored (λ t. subst (λ ps. list_all (is_count counts) ps ≡ true) (sym (each t)) (counted t));
    all = all_true (λ c. list_all (is_counted counts stored) c.targets) (λ c. all_true (is_counted counts stored) right_at c.targets) l.yanks;
  }
    where
      right_at : (t : Target) → is_counted counts stored t ≡ true
      right_at t =
          eq-eqb (put_counts stored (λ _. 0) t) (count_in counts t) (count_put stored (λ _. 0) t (live_count l t) refl (each t) ∙ sym (right.count t))

  pub counts_decided : AreCounts counts stored l.yanks ↔ ((t : Target) → filter (λ p. is_same t p.0) stored ≡ count_pairs t (live_count l t))
  counts_decided = (from_tests, to_tests)
