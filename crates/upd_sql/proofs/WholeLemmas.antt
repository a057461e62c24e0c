-- Reading whole tables: the rows of an answer are the table's, in any order, and each is read as the record that it stores.
use Rattle.upd_sql.proofs.Common.{◌≡◌, ℕ, ◌+◌, ◌<◌, true, List, [], ◌∷◌, ◌++◌, map, filter, take, length, get_or, Result, Ok, Err, refl, sym, ap, ap₂, subst}
use Rattle.upd_sql.proofs.Common.{◌==◌, ◌&&◌, nat_le, Bool, false, EntryRow, filter_same}
use Rattle.upd_sql.proofs.Common.{◌∙◌, arith, IfOk, list_all, nat_tests, take_more, get_or-map, length-map, Null, Row, Term}
use Rattle.upd_sql.proofs.Common.{eval_all, Error, Database, State, Shown, map-map, Target, Set, SetIn, Deck, Rows, TargetRow}
use Rattle.sqlite.specs.Listing.{understood}
use Rattle.upd_sql.proofs.Common.{state_pair, count_pair, rows_at, is_lone, clean_before, steps_then, library_schema, IsSame}
use Rattle.upd_sql.proofs.Common.{num, ident_row, card_row, entry_row, target_row, run_row, state_row, mark_row, stored, HoldsTables}
use Rattle.std.proofs.Common.{◌||◌, cond, nat_lt}
use Rattle.std.specs.List.{count_by}
use Rattle.sqlite.specs.Given.{IsPlain}
use Rattle.upd_records.proofs.CountLemmas.{count_append, count_cons, count_filter, same_append, same_of, same_trans}
use Rattle.upd_sql.specs.Commits.{IsAnswered, Looks}
use Rattle.upd_sql.specs.Encoded.{kept_state, kept_count}
use Rattle.upd_sql.proofs.Listed.{lists}
use Rattle.upd_sql.proofs.Conditions.{passes}
use Rattle.upd_sql.proofs.Bare.{is_bare}
use Rattle.upd_sql.proofs.ReadTexts.{Reads, two, three, four, five, six}
use Rattle.upd_sql.proofs.ReadTexts.{all_idents, all_cards, all_targets, all_states, all_counts, runs_in_turn, marks_in_turn}
use Rattle.upd_sql.proofs.Typed.{reads_exactly}
use Rattle.upd_sql.specs.declared.texts.TheConstants as sql

-- ---- rows one after another

-- one row more was read
pub read_more : {X : Type 0} (row_of : X → Row) (rows : List Row) (row : Row) (i : ℕ) (x : X) (found next : List X) → i < length rows
    → row ≡ get_or rows i row → ((kept : X) → row ≡ row_of kept → x ≡ kept) → next ≡ found ++ x ∷ []
    → ((kept : List X) → rows ≡ map row_of kept → found ≡ take i kept)
    → (kept : List X) → rows ≡ map row_of kept → next ≡ take (i + 1) kept
read_more row_of rows row i x found next within is reads pushed before kept are =
    let inside : i < length kept = omega (arith, within, ap length are, length-map kept row_of) in
    let own : row ≡ row_of (get_or kept i x) = is ∙ ap (λ (rs : List Row). get_or rs i row) are ∙ get_or-map row_of kept i x row inside in
    pushed ∙ ap (λ l. l ++ x ∷ []) (before kept are) ∙ ap (λ y. take i kept ++ y ∷ []) (reads (get_or kept i x) own) ∙ sym (take_more kept i x inside)

pub all_pass : {X : Type 0} (xs : List X) → filter (λ _. true) xs ≡ xs
all_pass [] = refl
all_pass (x ∷ xs) = ap (λ l. x ∷ l) (all_pass xs)

target_whole : (r : TargetRow) → eval_all six ([] ∷ (Null ∷ target_row r) ∷ []) ≡ target_row r
target_whole r = by r.target
  where
    by : (t : Target) → eval_all six ([] ∷ (Null ∷ target_row (record r { target = t })) ∷ []) ≡ target_row (record r { target = t })
    by (Set a) = refl
    by (SetIn a d) = refl
    by (Deck d) = refl

count_whole : (c : Target × ℕ) → eval_all four ([] ∷ (Null ∷ kept_count c) ∷ []) ≡ kept_count c
count_whole c = by c.0
  where
    by : (t : Target) → eval_all four ([] ∷ (Null ∷ kept_count (t, c.1)) ∷ []) ≡ kept_count (t, c.1)
    by (Set a) = refl
    by (SetIn a d) = refl
    by (Deck d) = refl

-- ---- what each text answers

module _ (old new : State) (it : Rows) (h : HoldsTables it old.now) (rows : List Row) where
  -- the records of a whole table
  abbrev Answers : {X : Type 0} → List ℕ → (X → Row) → List X → Type 0
  Answers sql row xs = Shown sql [] old new rows → (us : List _) × (rows ≡ map row us) × IsSame us xs

  whole : (k tree : ℕ) (alone : is_lone tree k library_schema.tables ≡ true) {X : Type 0} (row : X → Row) (xs : List X)
      (are : rows_at k (stored it) ≡ map row xs) (sql : List ℕ) (shown : List Term) → Reads sql tree [] shown [] → list_all is_bare shown ≡ true
      → ((x : X) → eval_all shown ([] ∷ (Null ∷ row x) ∷ []) ≡ row x) → Answers sql row xs
  whole k tree alone row xs are sql shown query bare kept answer =
      let found = lists k tree alone row (stored it) xs are sql [] old new rows answer h [] shown query refl bare (λ _. true) (λ x. refl) kept in
      (found.0, found.1, subst (IsSame found.0) (all_pass xs) found.2)

  pub idents_listed : Answers sql.ALL_IDENTS.now ident_row it.idents
  idents_listed = whole 1 2 refl ident_row it.idents refl _ five all_idents refl (λ x. refl)

  pub cards_listed : Answers sql.ALL_CARDS.now card_row it.cards
  cards_listed = whole 2 4 refl card_row it.cards refl _ five all_cards refl (λ x. refl)

  pub entries_listed : (ord : ℕ) (sql : List ℕ) (tests : List Term) (test : EntryRow → Bool) → Reads sql 6 tests five [] → list_all is_bare tests ≡ true
      → ((e : EntryRow) → passes (num ord ∷ []) tests (entry_row e) ≡ test e) → Shown sql (num ord ∷ []) old new rows
      → (us : List EntryRow) × (rows ≡ map entry_row us) × IsSame us (filter test it.entries)
  entries_listed ord sql tests test query bare means answer =
      lists 3 6 refl entry_row (stored it) it.entries refl sql (num ord ∷ []) old new rows answer h tests five query bare refl test means (λ e. refl)

  pub targets_listed : Answers sql.ALL_TARGETS.now target_row it.targets
  targets_listed = whole 4 8 refl target_row it.targets refl _ six all_targets refl target_whole

  pub state_rows_listed : Answers sql.ALL_STATES.now state_row it.states
  state_rows_listed = whole 6 12 refl state_row it.states refl _ three all_states refl (λ x. refl)

  pub states_listed : Answers sql.ALL_STATES.now kept_state (map state_pair it.states)
  states_listed = whole 6 12 refl kept_state (map state_pair it.states) (sym (map-map kept_state state_pair it.states)) _ three all_states refl (λ x. refl)

  pub counts_listed : Answers sql.ALL_COUNTS.now kept_count (map count_pair it.counts)
  counts_listed = whole 7 14 refl kept_count (map count_pair it.counts) (sym (map-map kept_count count_pair it.counts)) _ four all_counts refl count_whole

  pub runs_turned : Shown sql.RUNS_IN_TURN.now [] old new rows → rows ≡ map run_row it.runs
  runs_turned shown =
      reads_exactly 5 10 refl run_row (stored it) it.runs refl _ [] old new rows shown h [] six runs_in_turn refl refl (λ _. true) (λ x. refl) (λ x. refl)
      ∙ ap (map run_row) (all_pass it.runs)

  pub marks_turned : Shown sql.MARKS_IN_TURN.now [] old new rows → rows ≡ map mark_row it.settled
  marks_turned shown =
      reads_exactly 8 16 refl mark_row (stored it) it.settled refl _ [] old new rows shown h [] two marks_in_turn refl refl (λ _. true) (λ x. refl) (λ x. refl)
      ∙ ap (map mark_row) (all_pass it.settled)

-- ---- one look after another

pub looks_then : {X Y : Type 0} (F : Rows → X → Type 0) (G : Rows → Y → Type 0) (a b c : State) (x : X) (r : Result Y Error) → Looks F a b (Ok x)
    → Looks G b c r → Looks (λ it y. F it x × G it y) a c r
looks_then F G a b c x (Ok y) p q = record {
  steps = steps_then a b c x (Ok y) p.steps q.steps;
  was_open = λ clean inside. p.was_open (clean_before b c _ q.steps.survives clean) inside;
  same = λ clean schema.
      let early = clean_before b c _ q.steps.survives clean in
      let first = p.same early schema in
      q.same clean (subst (λ (d : Database). d.schema ≡ library_schema) (sym first) schema) ∙ first;
  found = λ clean it h.
      let early = clean_before b c _ q.steps.survives clean in
      (p.found early it h, q.found clean it (subst (HoldsTables it) (sym (p.same early h.schema_is)) h));
}
looks_then F G a b c x (Err e) p q =
    record { steps = steps_then a b c x (Err e) p.steps q.steps; was_open = λ clean. tt; same = λ clean. tt; found = λ clean. tt }

-- the same by other words
pub looks_as : {X Y : Type 0} (F : Rows → X → Type 0) (G : Rows → Y → Type 0) (a b : State) (x : X) (y : Y) → ((it : Rows) → F it x → G it y)
    → Looks F a b (Ok x) → Looks G a b (Ok y)
looks_as F G a b x y means p = record {
  steps = record { going = p.steps.going; kept = p.steps.kept; survives = p.steps.survives };
  was_open = p.was_open;
  same = p.same;
  found = λ clean it h. means it (p.found clean it h);
}

-- one look more, and what was found in both
pub looks_more : {X Y Z : Type 0} (F : Rows → X → Type 0) (G : Rows → Y → Type 0) (H : Rows → Z → Type 0) (a b c : State) (x : X) (y : Y) (z : Z)
    → Looks F a b (Ok x) → Looks G b c (Ok y) → ((it : Rows) → F it x → G it y → H it z) → Looks H a c (Ok z)
looks_more F G H a b c x y z p q both = looks_as (λ it v. F it x × G it v) H a c y z (λ it h. both it h.0 h.1) (looks_then F G a b c x (Ok y) p q)

-- from a query that was answered to what was made of its answer
pub looked : {X Y : Type 0} (F : Rows → Y → Type 0) (items : X → List Row) (sql : List ℕ) (params : Row) (a b : State) (x : X) (r : Result Y Error)
    → IsPlain (understood library_schema sql) → IsAnswered items sql params a b (Ok x)
    → ((it : Rows) → HoldsTables it a.now → Shown sql params a b (items x) → IfOk r (F it)) → Looks F a b r
looked F items sql params a b x (Ok y) plain said means = record {
  steps = record { going = said.steps.going; kept = said.steps.kept; survives = said.steps.survives };
  was_open = said.was_open;
  same = said.same plain;
  found = λ clean it h. means it h (said.shown clean);
}
looked F items sql params a b x (Err e) plain said means = record {
  steps = record { going = λ clean. tt; kept = said.steps.kept; survives = said.steps.survives };
  was_open = λ clean. tt;
  same = λ clean. tt;
  found = λ clean. tt;
}

-- ---- the entries in parts

-- what is read before the entries at a place
abbrev pub is_before : ℕ → EntryRow → Bool
is_before ord e = nat_le 3 e.ord || nat_lt e.ord ord

module _ {X : Type 0} (p q r : X → Bool) (once : (x : X) → cond (r x) 1 0 ≡ cond (p x) 1 0 + cond (q x) 1 0) where
  both_pass : (test : X → Bool) (x : X) → cond (r x && test x) 1 0 ≡ cond (p x && test x) 1 0 + cond (q x && test x) 1 0
  both_pass test x = by (p x) (q x) (r x) (once x)
    where
      by : (a b c : Bool) → cond c 1 0 ≡ cond a 1 0 + cond b 1 0 → cond (c && test x) 1 0 ≡ cond (a && test x) 1 0 + cond (b && test x) 1 0
      by true true true h = absurd (omega (arith, h))
      by true true false h = absurd (omega (arith, h))
      by true false true h = omega arith
      by true false false h = absurd (omega (arith, h))
      by false true true h = omega arith
      by false true false h = absurd (omega (arith, h))
      by false false true h = absurd (omega (arith, h))
      by false false false h = omega arith

  counted : (test : X → Bool) (xs : List X) → count_by (λ x. r x && test x) xs ≡ count_by (λ x. p x && test x) xs + count_by (λ x. q x && test x) xs
  counted test [] = refl
  counted test (x ∷ xs) =
      omega (
        arith,
        counted test xs,
        both_pass test x,
        count_cons (λ y. r y && test y) x xs,
        count_cons (λ y. p y && test y) x xs,
        count_cons (λ y. q y && test y) x xs,
      )

  -- those that pass one test or another, and never both
  pub parted : (xs : List X) → IsSame (filter p xs ++ filter q xs) (filter r xs)
  parted xs = record {
    passes = λ test. count_append test (filter p xs) (filter q xs) ∙ ap₂ ◌+◌ (count_filter test p xs) (count_filter test q xs) ∙ sym (counted test xs)
        ∙ sym (count_filter test r xs);
  }

pub one_part_more : (ord : ℕ) (es found part next : List EntryRow) → ord < 3 → next ≡ found ++ part
    → IsSame found (filter (is_before ord) es) → IsSame part (filter (λ e. e.ord == ord) es) → IsSame next (filter (is_before (ord + 1)) es)
one_part_more ord es found part next few grown p q =
    same_trans (same_of next (found ++ part) grown)
    (same_trans (same_append p q) (parted (is_before ord) (λ e. e.ord == ord) (is_before (ord + 1)) (λ e. once e.ord) es))
  where
    once : (n : ℕ) → cond (nat_le 3 n || nat_lt n (ord + 1)) 1 0 ≡ cond (nat_le 3 n || nat_lt n ord) 1 0 + cond (n == ord) 1 0
    once n = grind (arith, nat_tests, few)

pub all_parts : (es : List EntryRow) → filter (is_before 3) es ≡ es
all_parts es = filter_same _ _ (λ e. any e.ord) es ∙ all_pass es
  where
    any : (n : ℕ) → (nat_le 3 n || nat_lt n 3) ≡ true
    any n = grind (arith, nat_tests)
