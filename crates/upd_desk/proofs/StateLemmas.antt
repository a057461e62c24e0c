-- Statuses and counts that were read from tables for the cards of a part are those of this part of the library that the tables show.
use Rattle.upd_desk.proofs.Common.{◌≡◌, ℕ, ◌==◌, Bool, true, false, ◌&&◌, if◌then◌else◌, List, [], ◌∷◌, ◌||◌, length, map, Option, Some, None, refl, ap, sym}
use Rattle.upd_desk.proofs.Common.{◌∙◌, arith, filter, list_any, and_parts, nat_tests, CardRef, counted_cards, LibraryView, part, IsSound, Rows, ShowsStates}
use Rattle.upd_desk.proofs.Common.{same_ref, same_ref_is, is_asked}
use Rattle.std.proofs.Common.{count_by}
use Rattle.std.specs.Cmp.{booleans_Decides}
use Rattle.std.proofs.Math.Bool.{beq}
use Rattle.std.proofs.lemmas.List.Sums.{length-filter}
use Rattle.upd_core.specs.declared.states.States.{States}
use Rattle.upd_core.specs.declared.target.Target.{Target}
use Rattle.upd_core.specs.Status.{status_of}
use Rattle.upd_core.specs.TargetCounts.{live_count}
use Rattle.upd_core.specs.Targets.{is_same}
use Rattle.upd_core.proofs.CountedLemmas.{same_target, target_same}
use Rattle.upd_records.specs.Rows.{IsSame, StateRow, count_rows, state_rows}
use Rattle.upd_records.proofs.CountLemmas.{count_filter}
use Rattle.upd_records.proofs.EqualLemmas.{same_ref_own}
use Rattle.upd_row_store.proofs.AskedLemmas.{filter_made}
use Rattle.upd_row_store.specs.Tables.{AreReadOf, count_pair, state_pair}
use Rattle.upd_partial.proofs.PartStatusLemmas.{status_in_part}
use Rattle.upd_yank.specs.Right as right
use Rattle.upd_yank.specs.Right.{AreStatesOf}
use Rattle.upd_desk.specs.Compiling.{IsPartOf, references_of}

-- ---- the same elements as often

module _ {A : Type 0} (test : A → Bool) (xs ys : List A) (same : IsSame xs ys) where
  -- of as many elements as often as many pass
  passes : length (filter test xs) ≡ length (filter test ys)
  passes = length-filter test xs ∙ same.passes test ∙ sym (length-filter test ys)

  none_passes : filter test ys ≡ [] → filter test xs ≡ []
  none_passes none = go (filter test xs) (passes ∙ ap length none)
    where
      go : (zs : List A) → length zs ≡ 0 → zs ≡ []
      go [] e = refl
      go (z ∷ zs) e = absurd (cc)

  -- the only element that passes is told by a test of its own
  one_passes : (own : A → Bool) (y : A) → own y ≡ true → ((x : A) → own x ≡ true → x ≡ y) → filter test ys ≡ y ∷ [] → filter test xs ≡ y ∷ []
  one_passes own y is alone only = go (filter test xs) (passes ∙ ap length only) owned
    where
      owned : count_by own (filter test xs) ≡ count_by own (y ∷ [])
      owned = count_filter own test xs ∙ same.passes (λ x. test x && own x) ∙ sym (count_filter own test ys) ∙ ap (count_by own) only

      single : (x : A) (b : Bool) → own x ≡ b → count_by own (x ∷ []) ≡ count_by own (y ∷ []) → b ≡ true
      single x true e h = refl
      single x false e h = let clash : ◌≡◌ {A = ℕ} 0 1 = rw (e, is) at h in absurd (cc)

      go : (zs : List A) → length zs ≡ 1 → count_by own zs ≡ count_by own (y ∷ []) → zs ≡ y ∷ []
      go [] e h = absurd (cc)
      go (x ∷ []) e h = ap (λ z. z ∷ []) (alone x (single x (own x) refl h))
      go (x ∷ z ∷ zs) e h = absurd (omega arith)

-- ---- statuses

abbrev is_status : CardRef → Bool → CardRef × Bool → Bool
is_status card active p = same_ref card p.0 && beq p.1 active

own_status : (card : CardRef) (active : Bool) → is_status card active (card, active) ≡ true
own_status card active = rw (same_ref_own card, (booleans_Decides active active).1 refl) refl

one_status : (card : CardRef) (active : Bool) (p : CardRef × Bool) → is_status card active p ≡ true → p ≡ (card, active)
one_status card active p e =
    let two = and_parts (same_ref card p.0) (beq p.1 active) e in
    pair_is p.0 card p.1 active (sym (same_ref_is card p.0 two.0)) ((booleans_Decides p.1 active).0 two.1)
  where
    pair_is : (a b : CardRef) (x y : Bool) → a ≡ b → x ≡ y → (let p : CardRef × Bool = (a, x) in p) ≡ (b, y)
    pair_is a b x y e f = rw (e, f) refl

-- the rows of a card among those of the cards that are asked for
asked_rows : (cards : List CardRef) (card : CardRef) (rows : List StateRow)
    → filter (λ r. same_ref card r.card) (filter (λ r. is_asked cards r.card) rows)
    ≡ (if is_asked cards card then filter (λ r. same_ref card r.card) rows else [])
asked_rows cards card [] = either (is_asked cards card)
  where
    either : (b : Bool) → ◌≡◌ {A = List StateRow} [] (if b then [] else [])
    either true = refl
    either false = refl
asked_rows cards card (x ∷ rows) = go (same_ref card x.card) refl (is_asked cards x.card) refl (is_asked cards card) refl (asked_rows cards card rows)
  where
    own : same_ref card x.card ≡ true → is_asked cards x.card ≡ is_asked cards card
    own e = ap (is_asked cards) (sym (same_ref_is card x.card e))

    goal : Type 0
    goal = filter (λ r. same_ref card r.card) (filter (λ r. is_asked cards r.card) (x ∷ rows))
        ≡ (if is_asked cards card then filter (λ r. same_ref card r.card) (x ∷ rows) else [])

    go : (s : Bool) → same_ref card x.card ≡ s → (a : Bool) → is_asked cards x.card ≡ a → (b : Bool) → is_asked cards card ≡ b
        → filter (λ r. same_ref card r.card) (filter (λ r. is_asked cards r.card) rows)
        ≡ (if is_asked cards card then filter (λ r. same_ref card r.card) rows else []) → goal
    go false e true f b h later = rw (f, e) (rw h (rw h at later))
    go false e false f b h later = rw (f, e) (rw h (rw h at later))
    go true e true f true h later = rw (f, e, h) (ap (λ t. x ∷ t) (rw h at later))
    go true e true f false h later = absurd (let q = sym f ∙ own e ∙ h in cc)
    go true e false f true h later = absurd (let q = sym f ∙ own e ∙ h in cc)
    go true e false f false h later = rw (f, h) (rw h at later)

states_shown : (cards : List CardRef) (rows : Rows) (found : States) (l loaded : LibraryView) → AreReadOf cards rows found → ShowsStates rows l
    → ((card : CardRef) → status_of card loaded ≡ (if is_asked cards card then status_of card l else None))
    → (card : CardRef) → filter (λ p. same_ref card p.0) found.states.items ≡ right.status_pairs card (status_of card loaded)
states_shown cards rows found l loaded read shown own card = go (status_of card loaded) (asked ∙ of_loaded (is_asked cards card) refl)
  where
    test : CardRef × Bool → Bool
    test p = same_ref card p.0

    asked : filter (λ r. same_ref card r.card) (filter (λ r. is_asked cards r.card) rows.states)
        ≡ (if is_asked cards card then filter (λ r. same_ref card r.card) rows.states else [])
    asked = asked_rows cards card rows.states

    of_loaded : (b : Bool) → is_asked cards card ≡ b
        → (if is_asked cards card then filter (λ r. same_ref card r.card) rows.states else []) ≡ state_rows card (status_of card loaded)
    of_loaded true e = rw e (shown.states card ∙ ap (state_rows card) (sym (rw e at (own card))))
    of_loaded false e = rw e (ap (state_rows card) (sym (rw e at (own card))))

    made : filter test (map state_pair (filter (λ r. is_asked cards r.card) rows.states))
        ≡ map state_pair (filter (λ r. same_ref card r.card) (filter (λ r. is_asked cards r.card) rows.states))
    made = filter_made test state_pair (filter (λ r. is_asked cards r.card) rows.states)

    go : (s : Option Bool) → filter (λ r. same_ref card r.card) (filter (λ r. is_asked cards r.card) rows.states) ≡ state_rows card s
        → filter test found.states.items ≡ right.status_pairs card s
    go None e =
        none_passes test found.states.items (map state_pair (filter (λ r. is_asked cards r.card) rows.states)) read.states (made ∙ ap (map state_pair) e)
    go (Some active) e =
        one_passes test found.states.items (map state_pair (filter (λ r. is_asked cards r.card) rows.states)) read.states (is_status card active)
        (card, active) (own_status card active) (one_status card active) (made ∙ ap (map state_pair) e)

-- ---- counts

abbrev is_count : Target → ℕ → Target × ℕ → Bool
is_count target n p = is_same target p.0 && (p.1 == n)

own_count : (target : Target) (n : ℕ) → is_count target n (target, n) ≡ true
own_count target n = let same : (n == n) ≡ true = grind (arith, nat_tests) in rw (target_same target, same) refl

one_count : (target : Target) (n : ℕ) (p : Target × ℕ) → is_count target n p ≡ true → p ≡ (target, n)
one_count target n p e =
    let two = and_parts (is_same target p.0) (p.1 == n) e in
    pair_is p.0 target p.1 n (sym (same_target target p.0 two.0)) (equal two.1)
  where
    equal : (p.1 == n) ≡ true → p.1 ≡ n
    equal e = grind (arith, nat_tests)

    pair_is : (a b : Target) (x y : ℕ) → a ≡ b → x ≡ y → (let p : Target × ℕ = (a, x) in p) ≡ (b, y)
    pair_is a b x y e f = rw (e, f) refl

counts_shown : (cards : List CardRef) (rows : Rows) (found : States) (l : LibraryView) → AreReadOf cards rows found → ShowsStates rows l
    → (target : Target) → filter (λ p. is_same target p.0) found.counts.items ≡ right.count_pairs target (live_count l target)
counts_shown cards rows found l read shown target = go (live_count l target) (live_count l target == 0) refl (shown.counts target)
  where
    test : Target × ℕ → Bool
    test p = is_same target p.0

    made : filter test (map count_pair rows.counts) ≡ map count_pair (filter (λ r. is_same target r.target) rows.counts)
    made = filter_made test count_pair rows.counts

    go : (n : ℕ) (b : Bool) → (n == 0) ≡ b → filter (λ r. is_same target r.target) rows.counts ≡ count_rows target n
        → filter test found.counts.items ≡ right.count_pairs target n
    go n true is e = rw is (none_passes test found.counts.items (map count_pair rows.counts) read.counts (made ∙ ap (map count_pair) (e ∙ row)))
      where
        row : count_rows target n ≡ []
        row = rw is refl
    go n false is e = rw is (one_passes test found.counts.items (map count_pair rows.counts) read.counts (is_count target n) (target, n)
        (own_count target n) (one_count target n) (made ∙ ap (map count_pair) (e ∙ row)))
      where
        row : count_rows target n ≡ record { target = target; n = n } ∷ []
        row = rw is refl

-- ---- a part of the library

any_made : {A B : Type 0} (test : B → Bool) (f : A → B) (xs : List A) → list_any test (map f xs) ≡ list_any (λ x. test (f x)) xs
any_made test f [] = refl
any_made test f (x ∷ xs) = ap (λ b. test (f x) || b) (any_made test f xs)

-- what was read of the cards of a part shows the statuses of this part of the library whose statuses the tables show
pub read_states : (rows : Rows) (found : States) (l loaded : LibraryView) (cards : List CardRef) → IsSound l → IsPartOf l loaded
    → cards ≡ references_of loaded → AreReadOf cards rows found → ShowsStates rows l → AreStatesOf found loaded
read_states rows found l loaded cards sound (out, zero, is) are read shown = record {
  states = states_shown cards rows found l loaded read shown own;
  counts = λ target. counts_shown cards rows found l read shown target
      ∙ ap (λ (m : LibraryView). right.count_pairs target (live_count m target)) (sym is);
}
  where
    is_asked_by : CardRef → List CardRef → Bool
    is_asked_by card asked = is_asked asked card

    own : (card : CardRef) → status_of card loaded ≡ (if is_asked cards card then status_of card l else None)
    own card =
        ap (status_of card) is ∙ status_in_part out l card sound zero
        ∙ ap (λ b. if b then status_of card l else None)
        (sym (any_made (λ c. same_ref c card) (λ k. k.card) (counted_cards (part out l)))
        ∙ ap (is_asked_by card) (sym (are ∙ ap references_of is)))
