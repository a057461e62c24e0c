-- The tables of a store that keeps its row changes.
use Rattle.std.specs.Prelude.{List, [], map}
use Rattle.upd_core.specs.declared.change.Change.{Change}
use Rattle.upd_records.specs.Rows.{MarkRow, Rows, RunView}
use Rattle.upd_records.specs.Changes.{change_view, done_all}

-- tables with no row
abbrev pub no_rows : Rows
no_rows = record {
  idents = [];
  cards = [];
  entries = [];
  targets = [];
  runs = [];
  states = [];
  counts = [];
  settled = [];
}

-- the tables that row changes make of empty ones, with these runs and marks
abbrev pub made_tables : List Change → List RunView → List MarkRow → Rows
made_tables changes runs marks = record (done_all (map change_view changes) no_rows) { runs = runs; settled = marks }
