-- The tables that row changes make, beside the runs and the marks that are kept.
use Rattle.upd_memory.proofs.Common.{◌≡◌, List, [], ◌∷◌, ◌++◌, map, None, Some, Option, refl, ap, sym, ◌∙◌, subst, map-append}
use Rattle.upd_memory.proofs.Common.{Change, ChangeView, CardNew, Rows, change_view, done, done_all, Agrees, Result, Ok, Err, result_ok}
use Rattle.std.proofs.Common.{IfOk}
use Rattle.upd_records.specs.Changes.{IdentNew, IdentPurged, CardGone, CardsMoved, EntryNew, EntriesGone, TargetNew, TargetsGone, StatusNow, CountNow}
use Rattle.upd_records.specs.Rows.{MarkRow, RunView}
use Rattle.upd_row_store.specs.Tables.{committed, with_run}
use Rattle.upd_row_store.proofs.MoveLemmas.{done_parts}
use Rattle.upd_memory.specs.declared.mirror.Mirror.{Mirror}
use Rattle.upd_memory.specs.Lists.{made_tables, no_rows}
use Rattle.upd_memory.specs.Mirrored.{AgreesIfAny}

-- a mirror has nothing of runs and marks
pub agrees_beside : (m : Option Mirror) (rows : Rows) (runs : List RunView) (marks : List MarkRow) → AgreesIfAny m rows
    → AgreesIfAny m (record rows { runs = runs; settled = marks })
agrees_beside None rows runs marks are = tt
agrees_beside (Some m) rows runs marks are = record {
  idents = are.idents;
  cards = are.cards;
  homes = are.homes;
  entries = are.entries;
  entry_count = are.entry_count;
  targets = are.targets;
  states = are.states;
  counts = are.counts;
}

-- what agrees where there is a mirror, of one that a call answers
pub agrees_ok : {E : Type 0} (r : Result Mirror E) (rows : Rows) → AgreesIfAny (result_ok r) rows → IfOk r (λ m. Agrees m rows)
agrees_ok (Ok m) rows are = are
agrees_ok (Err e) rows are = tt

-- row changes leave runs and marks
one_beside : (c : ChangeView) (rows : Rows) (runs : List RunView) (marks : List MarkRow)
    → done c (record rows { runs = runs; settled = marks }) ≡ record (done c rows) { runs = runs; settled = marks }
one_beside (IdentNew i) rows runs marks = refl
one_beside (IdentPurged age) rows runs marks = refl
one_beside (CardNew card deck place body) rows runs marks = refl
one_beside (CardGone card) rows runs marks = refl
one_beside (CardsMoved deck from by) rows runs marks = refl
one_beside (EntryNew card ord entry) rows runs marks = refl
one_beside (EntriesGone card) rows runs marks = refl
one_beside (TargetNew card ord target) rows runs marks = refl
one_beside (TargetsGone card targets) rows runs marks = refl
one_beside (StatusNow card active) rows runs marks = refl
one_beside (CountNow target n) rows runs marks = refl

all_beside : (cs : List ChangeView) (rows : Rows) (runs : List RunView) (marks : List MarkRow)
    → done_all cs (record rows { runs = runs; settled = marks }) ≡ record (done_all cs rows) { runs = runs; settled = marks }
all_beside [] rows runs marks = refl
all_beside (c ∷ cs) rows runs marks = ap (done_all cs) (one_beside c rows runs marks) ∙ all_beside cs (done c rows) runs marks

-- a commit adds its row changes and its run
pub committed_tables : (log added : List Change) (cs : List ChangeView) (runs : List RunView) (marks : List MarkRow) (run : RunView)
    → map change_view added ≡ cs → committed cs run (made_tables log runs marks) ≡ made_tables (log ++ added) (runs ++ run ∷ []) marks
committed_tables log added cs runs marks run is =
    ap (with_run run) (all_beside cs (done_all (map change_view log) no_rows) runs marks)
    ∙ ap (λ (rows : Rows). record rows { runs = runs ++ run ∷ []; settled = marks }) (done_parts (map change_view log) cs no_rows
    ∙ ap (λ ds. done_all ds no_rows) (sym (map-append change_view log added ∙ ap (λ ds. map change_view log ++ ds) is)))

pub agrees_committed : (m : Option Mirror) (log added : List Change) (cs : List ChangeView) (runs : List RunView) (marks : List MarkRow) (run : RunView)
    → map change_view added ≡ cs → AgreesIfAny m (done_all cs (made_tables log runs marks))
    → AgreesIfAny m (made_tables (log ++ added) (runs ++ run ∷ []) marks)
agrees_committed m log added cs runs marks run is are =
    let after = done_all cs (made_tables log runs marks) in
    subst (AgreesIfAny m) (committed_tables log added cs runs marks run is) (agrees_beside m after (after.runs ++ run ∷ []) after.settled are)
