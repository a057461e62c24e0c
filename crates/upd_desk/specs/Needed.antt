-- Which decks an arrival needs.
use Rattle.std.specs.Prelude.{ℕ, List, [], Option, Some, None, Result, Ok, Err}
use Rattle.upd_text.specs.declared.fault.Fault.{Fault}
use Rattle.upd_core.specs.Serials.{Serial}
use Rattle.upd_core.specs.Library.{LibraryView}
use Rattle.upd_records.specs.Rows.{RunView}
use Rattle.upd_deck.specs.Items.{LineView}
use Rattle.upd_deck.specs.Reading.{reading}
use Rattle.upd_partial.specs.Needed.{decks_needed}
use Rattle.upd_desk.specs.Arrivals.{ArrivalView}
use Rattle.upd_desk.specs.Journal.{Journal, kept, library_after}

-- the decks that the bytes of a run need of a library: none where they aren't read
abbrev pub needed : List ℕ → LibraryView → List Serial
needed bytes l = by (reading bytes)
  where
    by : Result (List LineView) Fault → List Serial
    by (Ok lines) = decks_needed lines l
    by (Err fault) = []

-- the decks that an arrival after a journal needs: none where its key is kept
abbrev pub needed_by : Journal → ArrivalView → List Serial
needed_by journal a = by (kept journal a.site a.number)
  where
    by : Option RunView → List Serial
    by (Some run) = []
    by None = needed a.bytes (library_after journal)
