-- What each text that writes makes of the tables.
use Rattle.upd_sql.proofs.Common.{◌≡◌, ℕ, ◌+◌, ◌-◌, ◌<◌, ◌^◌, ◌==◌, nat_le, pos, negsuc, false, ◌&&◌, if◌then◌else◌, List, [], ◌∷◌, ◌++◌}
use Rattle.upd_sql.proofs.Common.{codes, Ok, Err, Result, Error, refl, ap, ap₂, ◌∙◌, arith, IsTrue, length, ◌/◌, bytes_eq, Null, Text, Row, value_rows}
use Rattle.upd_sql.proofs.Common.{State, HasCleanDisk, Executes, IfOk, Ident, Target, Set, SetIn, Deck, is_same, CardRow, EntryRow, TargetRow}
use Rattle.upd_sql.proofs.Common.{RunView, StateRow, CountRow, MarkRow, same_ref, is_settled, is_mark_of, ident_columns, card_columns, entry_columns}
use Rattle.upd_sql.proofs.Common.{target_columns, run_columns, state_columns, count_columns, mark_columns, num, target_code, ident_row, card_row, entry_row}
use Rattle.upd_sql.proofs.Common.{target_row, run_row, state_row, count_row, mark_row, HoldsTables, AnyTables, all_weaker, moved_row, restated, Ran, Makes}
use Rattle.upd_sql.proofs.Common.{CountsStatuses, eq_nat, eq_text, one_test, two_tests, three_tests, covers, with_moved, CanMoveOf, done, Fits, CardsMoved}
use Rattle.upd_sql.proofs.Common.{with_run, with_state, with_count, with_mark, with_restated, without_card_rows, without_states, without_count, without_mark}
use Rattle.upd_sql.proofs.Common.{without_runs, and_parts}
use Rattle.std.proofs.Common.{◌≤◌}
use Rattle.sqlite_keyed.proofs.ListLemmas.{all_of}
use Rattle.sqlite_value.specs.declared.value.Value.{Value}
use Rattle.upd_records.specs.Changes.{purged_row, IdentNew, IdentPurged, CardNew, EntryNew, TargetNew}
use Rattle.upd_row_store.specs.Ranges.{in_range, without_rows}
use Rattle.upd_row_store.specs.declared.ranges.CardRange.{CardRange}
use Rattle.upd_row_store.specs.declared.ranges.CardRows.TheVariants.{Entries, Targets}
use Rattle.upd_sqlite.proofs.Tests.{ge_nat, add_nat, sub_nat}
use Rattle.sqlite_sql.specs.Ops.{binary}
use Rattle.sqlite_sql.specs.declared.ops.ArithOp.TheVariants.{Add, Sub}
use Rattle.sqlite_sql.specs.declared.ops.BinaryOp.TheVariants.{Arith}
use Rattle.upd_row_store.specs.Shifts.{is_behind}
use Rattle.upd_sql.proofs.Typed.{TableOf, table, adds, removes, changes, changes_counted}
use Rattle.upd_sql.proofs.Casts.{cast_ident, cast_card, cast_entry, cast_target, cast_run, cast_state, cast_count, cast_mark}
use Rattle.upd_sql.proofs.Conditions.{bytes_flip, passes, range_params, card_ranged, entry_ranged, target_ranged, state_ranged, state_told, count_named}
use Rattle.upd_sql.proofs.Conditions.{mark_named, run_settled, grouped, both_if}
use Rattle.upd_sql.proofs.WriteTexts as text
use Rattle.upd_sql.specs.declared.texts.TheConstants as sql

-- ---- the tables

abbrev pub idents : TableOf Ident
idents = table 1 2 (codes "idents") ident_columns (1 ∷ []) ident_row (λ it. it.idents) refl refl (λ _ _. refl) (λ it. refl) cast_ident

abbrev pub cards : TableOf CardRow
cards = table 2 4 (codes "cards") card_columns (1 ∷ 2 ∷ []) card_row (λ it. it.cards) refl refl (λ _ _. refl) (λ it. refl) cast_card

abbrev entries : TableOf EntryRow
entries = table 3 6 (codes "entries") entry_columns (1 ∷ 2 ∷ 3 ∷ []) entry_row (λ it. it.entries) refl refl (λ _ _. refl) (λ it. refl) cast_entry

abbrev targets : TableOf TargetRow
targets = table 4 8 (codes "targets") target_columns (1 ∷ 2 ∷ 3 ∷ []) target_row (λ it. it.targets) refl refl (λ _ _. refl) (λ it. refl) cast_target

abbrev runs : TableOf RunView
runs = table 5 10 (codes "runs") run_columns (1 ∷ 2 ∷ []) run_row (λ it. it.runs) refl refl (λ _ _. refl) (λ it. refl) cast_run

abbrev states : TableOf StateRow
states = table 6 12 (codes "states") state_columns (1 ∷ 2 ∷ []) state_row (λ it. it.states) refl refl (λ _ _. refl) (λ it. refl) cast_state

abbrev counts : TableOf CountRow
counts = table 7 14 (codes "counts") count_columns (1 ∷ 2 ∷ 3 ∷ []) count_row (λ it. it.counts) refl refl (λ _ _. refl) (λ it. refl) cast_count

abbrev settled : TableOf MarkRow
settled = table 8 16 (codes "settled") mark_columns (1 ∷ []) mark_row (λ it. it.settled) refl refl (λ _ _. refl) (λ it. refl) cast_mark

-- the row of a card that moved
abbrev at_place : CardRow → Value → Row
at_place c place = Text c.card.name ∷ num c.card.number ∷ num c.deck ∷ place ∷ Text c.body ∷ []

back : (c : CardRow) (by : ℕ) → c.pos + by < 2 ^ 32 → at_place c (binary (Arith Add) (num c.pos) (num by)) ≡ card_row (record c { pos = c.pos + by })
back c by low = ap (at_place c) (add_nat c.pos by (omega arith))

forward : (c : CardRow) (by : ℕ) → by + 1 ≤ c.pos → c.pos < 2 ^ 32
    → at_place c (binary (Arith Sub) (num c.pos) (num (by + 1))) ≡ card_row (record c { pos = c.pos - (by + 1) })
forward c by room low = ap (at_place c) (sub_nat c.pos (by + 1) room (omega arith))

module _ {X : Type 0} {old new : State} {r : Result X Error} where
  -- ---- one row more

  pub ident_added : (i : Ident) → Ran sql.INSERT_IDENT.now (ident_row i) old new r → Makes HoldsTables AnyTables (done (IdentNew i)) old new r
  ident_added i ran = adds idents ran text.insert_ident i refl (λ it. refl)

  pub card_added : (c : CardRow) → Ran sql.INSERT_CARD.now (card_row c) old new r
      → Makes HoldsTables AnyTables (done (CardNew c.card c.deck c.pos c.body)) old new r
  card_added c ran = adds cards ran text.insert_card c refl (λ it. refl)

  pub entry_added : (e : EntryRow) → Ran sql.INSERT_ENTRY.now (entry_row e) old new r
      → Makes HoldsTables AnyTables (done (EntryNew e.card e.ord e.entry)) old new r
  entry_added e ran = adds entries ran text.insert_entry e refl (λ it. refl)

  pub target_added : (e : TargetRow) → Ran sql.INSERT_TARGET.now (target_row e) old new r
      → Makes HoldsTables AnyTables (done (TargetNew e.card e.ord e.target)) old new r
  target_added e ran = adds targets ran text.insert_target e (source e.target) (λ it. refl)
    where
      source : (t : Target) → value_rows (target_row (record e { target = t }) ++ []) 7 (length text.given_six / 7) text.given_six
          ≡ (Null ∷ target_row (record e { target = t })) ∷ []
      source (Set z) = refl
      source (SetIn z d) = refl
      source (Deck d) = refl

  pub run_added : (run : RunView) → Ran sql.INSERT_RUN.now (run_row run) old new r → Makes HoldsTables AnyTables (with_run run) old new r
  run_added run ran = adds runs ran text.insert_run run refl (λ it. refl)

  pub state_added : (s : StateRow) → Ran sql.INSERT_STATE.now (state_row s) old new r
      → Makes HoldsTables AnyTables (with_state s.card s.active) old new r
  state_added s ran = adds states ran text.insert_state s refl (λ it. refl)

  pub count_added : (c : CountRow) → Ran sql.INSERT_COUNT.now (count_row c) old new r → Makes HoldsTables AnyTables (with_count c.target c.n) old new r
  count_added c ran = adds counts ran text.insert_count c (source c.target) (λ it. refl)
    where
      source : (t : Target) → value_rows (count_row (record c { target = t }) ++ []) 5 (length text.given_four / 5) text.given_four
          ≡ (Null ∷ count_row (record c { target = t })) ∷ []
      source (Set z) = refl
      source (SetIn z d) = refl
      source (Deck d) = refl

  pub mark_added : (m : MarkRow) → Ran sql.INSERT_MARK.now (mark_row m) old new r → Makes HoldsTables AnyTables (with_mark m.site m.mark) old new r
  mark_added m ran = adds settled ran text.insert_mark m refl (λ it. refl)

  -- ---- rows removed

  pub cards_gone : (s : CardRange) → Ran sql.DELETE_CARDS.now (range_params s) old new r
      → Makes HoldsTables AnyTables (without_card_rows (in_range s)) old new r
  cards_gone s ran = removes cards ran text.delete_cards refl (λ c. in_range s c.card) (card_ranged s) (λ it. refl)

  pub entries_gone : (s : CardRange) → Ran sql.DELETE_ENTRIES.now (range_params s) old new r
      → Makes HoldsTables AnyTables (without_rows Entries (in_range s)) old new r
  entries_gone s ran = removes entries ran text.delete_entries refl (λ e. in_range s e.card) (entry_ranged s) (λ it. refl)

  pub targets_gone : (s : CardRange) → Ran sql.DELETE_TARGETS.now (range_params s) old new r
      → Makes HoldsTables AnyTables (without_rows Targets (in_range s)) old new r
  targets_gone s ran = removes targets ran text.delete_targets refl (λ e. in_range s e.card) (target_ranged s) (λ it. refl)

  pub states_gone : (s : CardRange) → Ran sql.DELETE_STATES.now (range_params s) old new r
      → Makes HoldsTables AnyTables (without_states (in_range s)) old new r
  states_gone s ran = removes states ran text.delete_states refl (λ c. in_range s c.card) (state_ranged s) (λ it. refl)

  pub count_gone : (t : Target) → Ran sql.DELETE_COUNT.now (target_code t) old new r → Makes HoldsTables AnyTables (without_count t) old new r
  count_gone t ran = removes counts ran text.delete_count refl (λ c. is_same t c.target) (count_named t) (λ it. refl)

  pub mark_gone : (site : List ℕ) → Ran sql.DELETE_MARK.now (Text site ∷ []) old new r → Makes HoldsTables AnyTables (without_mark site) old new r
  mark_gone site ran = removes settled ran text.delete_mark refl (is_mark_of site) (mark_named site) (λ it. refl)

  pub runs_gone : (site : List ℕ) (number : ℕ) → Ran sql.DELETE_RUNS.now (Text site ∷ num number ∷ []) old new r
      → Makes HoldsTables AnyTables (without_runs site number) old new r
  runs_gone site number ran = removes runs ran text.delete_runs refl (is_settled site number) (run_settled site number) (λ it. refl)

  -- ---- rows changed in place

  pub ident_purged : (age : ℕ) → Ran sql.PURGE_IDENT.now (num age ∷ []) old new r → Makes HoldsTables AnyTables (done (IdentPurged age)) old new r
  ident_purged age ran =
      changes idents ran text.purge_ident refl (λ i. i.age == age) (λ i. one_test (eq_nat i.age age)) refl (purged_row age) (λ i. record i { held = false })
      (λ i. refl) (λ it fits. all_of _ (λ i there. refl) it.idents) (λ it. refl)

  pub state_restated : (s : StateRow) → Ran sql.UPDATE_STATE.now (state_row s) old new r
      → Makes HoldsTables AnyTables (with_restated s.card s.active) old new r
  state_restated s ran =
      changes states ran text.update_state refl (λ x. same_ref s.card x.card) (state_told s) refl (restated s.card s.active)
      (λ x. record x { active = s.active }) (λ x. refl) (λ it fits. all_of _ (λ x there. refl) it.states) (λ it. refl)

  pub cards_moved_back : (deck from by : ℕ) → Ran sql.MOVE_BACK.now (num deck ∷ num from ∷ num by ∷ []) old new r
      → Makes HoldsTables (Fits (CardsMoved deck from (pos by))) (done (CardsMoved deck from (pos by))) old new r
  cards_moved_back deck from by ran =
      changes cards ran text.move_back refl (is_behind deck from) (λ c. two_tests (eq_nat c.deck deck) (ge_nat c.pos from)) refl
      (moved_row deck from (pos by)) (λ c. record c { pos = c.pos + by }) (λ c. refl)
      (λ it fits. all_weaker _ _ (λ c can there. back c by (can there)) it.cards fits) (λ it. refl)

  pub cards_moved_up : (deck from by : ℕ) → Ran sql.MOVE_UP.now (num deck ∷ num from ∷ num (by + 1) ∷ []) old new r
      → Makes HoldsTables (Fits (CardsMoved deck from (negsuc by))) (done (CardsMoved deck from (negsuc by))) old new r
  cards_moved_up deck from by ran =
      changes cards ran text.move_up refl (is_behind deck from) (λ c. two_tests (eq_nat c.deck deck) (ge_nat c.pos from)) refl
      (moved_row deck from (negsuc by)) (λ c. record c { pos = c.pos - (by + 1) }) (λ c. refl)
      (λ it fits. all_weaker _ _ (λ c can there. forward c by (can there).0 (can there).1) it.cards fits) (λ it. refl)

  pub cards_moved_of : (e : List ℕ × ℕ) (deck from by : ℕ) → Ran sql.MOVE_BACK_OF.now (Text e.0 ∷ num e.1 ∷ num deck ∷ num from ∷ num by ∷ []) old new r
      → Makes HoldsTables (CanMoveOf e deck from by) (with_moved e deck from by) old new r
  cards_moved_of e deck from by ran =
      changes cards ran text.move_back_of refl (λ c. covers e c.card && is_behind deck from c) holds refl
      (λ c. if covers e c.card then moved_row deck from (pos by) c else c) (λ c. record c { pos = c.pos + by })
      (λ c. both_if (covers e c.card) (is_behind deck from c) _ c)
      (λ it fits. all_weaker _ _ (λ c can there. let are = and_parts _ _ there in back c by (can are.0 are.1)) it.cards fits) (λ it. refl)
    where
      holds : (c : CardRow) → passes (Text e.0 ∷ num e.1 ∷ num deck ∷ num from ∷ num by ∷ []) text.move_back_of_tests (card_row c)
          ≡ (covers e c.card && is_behind deck from c)
      holds c =
          ap₂ ◌&&◌ (eq_text c.card.name e.0 ∙ bytes_flip c.card.name e.0) (three_tests (ge_nat c.card.number e.1) (eq_nat c.deck deck) (ge_nat c.pos from))
          ∙ grouped (bytes_eq e.0 c.card.name) (nat_le e.1 c.card.number) (is_behind deck from c)

-- the number that the statement returns is that of the rows that pass its test
pub states_counted : (old new : State) (s : StateRow) (r : Result ℕ Error)
    → (HasCleanDisk new → IsTrue old.in_transaction → IfOk r (λ n. Executes sql.UPDATE_STATE.now (state_row s) old new (Ok n)))
    → CountsStatuses s.card old new r
states_counted old new s (Ok n) counted = λ clean inside it h.
    changes_counted states _ text.update_state refl (λ x. same_ref s.card x.card) (state_told s) old new it n h (counted clean inside)
states_counted old new s (Err e) counted = λ clean inside. tt
