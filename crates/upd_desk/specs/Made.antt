-- What a desk owes of a new run: what is known of the library that it comes to, and what its row changes make of tables.
use Rattle.std.specs.Prelude.{ℕ, IsTrue, List, length, Option, Some, None, Result, Ok, Err}
use Rattle.upd_text.specs.declared.fault.Fault.{Fault}
use Rattle.upd_core.specs.Library.{LibraryView}
use Rattle.upd_core.specs.Limits.{is_within_limits}
use Rattle.upd_core.specs.Sound.{IsSound, IsWhole}
use Rattle.upd_apply.specs.Applying.{touched}
use Rattle.upd_records.specs.Changes.{ChangeView, done_all}
use Rattle.upd_records.specs.Fits.{AllFit}
use Rattle.upd_records.specs.Rows.{Rows, RunView, Shows, ShowsStates}
use Rattle.upd_compile.specs.declared.mode.Mode.{Mode}
use Rattle.upd_laws.specs.ReadRuns.{HasLineTexts}
use Rattle.upd_yank.specs.Affected.{affected}
use Rattle.upd_desk.specs.Arrivals.{ArrivalView, check_arrival}
use Rattle.upd_desk.specs.Journal.{Journal, kept, library_after}
use Rattle.upd_desk.specs.Outcomes.{Compiled, compiled}

-- What is known of the library after each journal: it is sound and whole, no limit is passed, and names and cards are as runs bring them.
pub record IsMade (l : LibraryView) : Type 0 where
  pub sound : IsSound l
  pub whole : IsWhole l
  pub within : IsTrue (is_within_limits l)
  pub texts : HasLineTexts l

-- Row changes lead tables to a library: the tables can carry them out, and then show the library with its statuses and counts.
pub record LeadTo (changes : List ChangeView) (rows : Rows) (l : LibraryView) : Type 0 where
  pub fit : AllFit changes rows
  pub library : Shows (done_all changes rows) l
  pub states : ShowsStates (done_all changes rows) l

-- how many cards are looked at for a run: those that it can have changed the status of, and none are counted where it is refused
abbrev pub looked_at : LibraryView → Result Compiled Fault → ℕ
looked_at l (Ok done) = length (affected (touched l done.reached.library) l done.reached.library)
looked_at l (Err fault) = 0

-- how many cards are looked at for an arrival after a journal: none where its key is kept, otherwise those for its own run
abbrev pub work_of : Journal → ArrivalView → ℕ
work_of journal a = by (kept journal a.site a.number) (check_arrival a)
  where
    by : Option RunView → Result Mode Fault → ℕ
    by (Some run) mode = 0
    by None (Ok mode) = looked_at (library_after journal) (compiled mode a.bytes (library_after journal))
    by None (Err fault) = 0
