-- When the rows of a library are those of a sound, whole library.
use Rattle.std.specs.Prelude.{◌≡◌, true, List}
use Rattle.upd_core.specs.Library.{LibraryView}
use Rattle.upd_core.specs.Limits.{is_within_limits}
use Rattle.upd_core.specs.Sound.{IsSound, IsWhole}
use Rattle.upd_core.specs.declared.states.States.{States}
use Rattle.upd_records.specs.Rows.{MarkRow, RunView, rows_of}
use Rattle.upd_records.specs.declared.rows.LibraryRows.{LibraryRows}
use Rattle.upd_row_store.specs.Assembling.{AreRowsOf}
use Rattle.upd_laws.specs.ReadRuns.{HasLineTexts}
use Rattle.upd_yank.specs.Right.{AreStatesOf}
use Rattle.upd_examine.specs.Grown.{is_grown}
use Rattle.upd_examine.specs.RunForms.{AreRunsSound}

-- Rows are exactly those of a library, which is sound, whole and within its limits. Its names, texts and numbers are those of runs.
pub record AreLibraryRows (rows : LibraryRows) (l : LibraryView) : Type 0 where
  pub sound : IsSound l
  pub whole : IsWhole l
  pub limits : is_within_limits l ≡ true
  pub texts : HasLineTexts l
  pub own : AreRowsOf (rows_of l) rows

-- Some library has these rows, statuses and counts, and is as runs leave one; stored runs and marks are right.
pub record AreSoundRows (rows : LibraryRows) (states : States) (runs : List RunView) (marks : List MarkRow) : Type 0 where
  pub library : LibraryView
  pub own : AreLibraryRows rows library
  pub grown : is_grown library ≡ true
  pub statuses : AreStatesOf states library
  pub stored : AreRunsSound runs marks
