-- When the stored runs of a library, handed in again at an empty one, give the same library.
use Rattle.std.specs.Prelude.{◌≡◌, ◌≢◌, ◌⊎◌, ℕ, zero, suc, List, [], ◌∷◌, ◌++◌, codes, decimal, length, Option, Some, None, Result, Ok, IfErr}
use Rattle.upd_text.specs.declared.fault.Fault.{Fault}
use Rattle.upd_records.specs.Rows.{IsSame, Rows, RunView}
use Rattle.upd_row_store.specs.Assembling.{AreRowsOf}
use Rattle.upd_row_store.specs.Keeping.{FindsRows, IsLost, Keeps}
use Rattle.upd_row_store.specs.Tables.{AreRead, ListsRuns}
use Rattle.upd_row_store.specs.declared.meaning.Meaning.{Ghosts}
use Rattle.upd_desk.specs.Arrivals.{ArrivalView, arrival_view}
use Rattle.upd_desk.specs.Holding.{Holds}
use Rattle.upd_desk.specs.Journal.{Came, Journal, answer}
use Rattle.upd_keep.specs.declared.stored_tables.StoredTables.{StoredTables}
use Rattle.upd_keep.specs.declared.replaying.Replayed.{Replayed}
use Rattle.upd_keep.specs.declared.replaying.Replayed.TheVariants.{Same, Other}

-- the word of a stored mode, by its number; the empty word where no mode has the number
abbrev pub stored_mode : ℕ → List ℕ
stored_mode zero = codes "full"
stored_mode (suc zero) = codes "quick"
stored_mode (suc (suc zero)) = codes "normal"
stored_mode (suc (suc (suc n))) = []

-- a stored run as it arrived
abbrev pub arrival_of : RunView → ArrivalView
arrival_of run = arrival_view run.site run.number (stored_mode run.mode) run.bytes

-- the journal after these runs have arrived, one after the other
abbrev pub journal_with : Journal → List RunView → Journal
journal_with journal [] = journal
journal_with journal (run ∷ later) = journal_with (Came (arrival_of run) ∷ journal) later

-- the stored reply to a run is the one that is expected after a journal
abbrev pub HasReply : Journal → RunView → Type 0
HasReply journal run = answer journal (arrival_of run) ≡ Ok (record { accepted = run.accepted; text = run.reply })

-- so it is of each of these runs, after those before it
abbrev pub HaveReplies : Journal → List RunView → Type 0
HaveReplies journal [] = Unit {0}
HaveReplies journal (run ∷ later) = HasReply journal run × HaveReplies (Came (arrival_of run) ∷ journal) later

-- the first of these runs whose stored reply is not the one that is expected after those before it
abbrev pub PartsAt : Journal → List RunView → RunView → Type 0
PartsAt journal runs run = (before : List RunView) × (later : List RunView) × (runs ≡ before ++ run ∷ later)
    × HaveReplies journal before × (¬ HasReply (journal_with journal before) run)

-- no run has another reply, or this one is the first
abbrev pub IsFirstParting : Journal → List RunView → Option RunView → Type 0
IsFirstParting journal runs None = HaveReplies journal runs
IsFirstParting journal runs (Some run) = PartsAt journal runs run

-- ---- tables that are compared

-- The rows of tables that were read, and their runs in the order in which they were stored.
pub record AreStoredTables (rows : Rows) (all : StoredTables) : Type 0 where
  pub library : AreRowsOf rows all.library
  pub states : AreRead rows all.states
  pub kept : ListsRuns rows all.kept

-- this table is another, and it is found; or it is the same, and so it is of those after it
abbrev pub IsFirst : Type 0 → List ℕ → Option (List ℕ) → Type 0 → Type 0
IsFirst IsAlike table found Later = ((¬ IsAlike) × (found ≡ Some table)) ⊎ (IsAlike × Later)

-- the first of the six tables that is another, where these say of each that it is the same; None where all are
abbrev pub IsFirstOther : (idents cards entries targets states counts : Type 0) → Option (List ℕ) → Type 0
IsFirstOther idents cards entries targets states counts found =
    IsFirst idents (codes "idents") found (IsFirst cards (codes "cards") found (IsFirst entries (codes "entries") found
    (IsFirst targets (codes "targets") found (IsFirst states (codes "states") found (IsFirst counts (codes "counts") found (found ≡ None))))))

-- the first table that has other rows than these; None where each has the same ones, as often
abbrev pub DiffersFirst : Rows → Rows → Option (List ℕ) → Type 0
DiffersFirst rows others =
    IsFirstOther (IsSame rows.idents others.idents) (IsSame rows.cards others.cards) (IsSame rows.entries others.entries)
    (IsSame rows.targets others.targets) (IsSame rows.states others.states) (IsSame rows.counts others.counts)

-- Tables have no settled run. Their runs, in the order in which they were stored, get the stored replies at an empty library, and of the tables that hold
-- the library made so, with its statuses and counts, this is the first that is another, if there is one.
pub record AreReplayed (rows : Rows) (table : Option (List ℕ)) : Type 0 where
  pub unsettled : rows.settled ≡ []
  pub replies : HaveReplies [] rows.runs
  pub made : Rows
  pub holds : Holds (journal_with [] rows.runs) made
  pub differs : DiffersFirst rows made table

-- ---- what is said

-- the line of this number of runs that give the same library
abbrev pub replayed_line : ℕ → List ℕ
replayed_line runs = codes "replayed: runs " ++ decimal runs ++ codes "\n"

-- the line of a run with another reply
abbrev pub run_line : RunView → List ℕ
run_line run = codes "upd: run " ++ run.site ++ codes " " ++ decimal run.number ++ codes ": the reply is another\n"

-- the line of a table that is another
abbrev pub table_line : List ℕ → List ℕ
table_line table = codes "upd: the tables are others: " ++ table ++ codes "\n"

-- the line where runs are settled
abbrev pub settled_line : List ℕ
settled_line = codes "upd: runs are settled, so the library can't be replayed\n"

-- what is said is so of these tables
abbrev pub IsSaidOf : Rows → Replayed → Type 0
IsSaidOf rows (Same line) = AreReplayed rows None × (line.items ≡ replayed_line (length rows.runs))
IsSaidOf rows (Other line) =
    ((rows.settled ≢ []) × (line.items ≡ settled_line))
    ⊎ (((run : RunView) × PartsAt [] rows.runs run × (line.items ≡ run_line run))
    ⊎ ((table : List ℕ) × AreReplayed rows (Some table) × (line.items ≡ table_line table)))

module _ {S : Type 0} (meaning : Ghosts S) where
  -- The runs of the library that a store showed were handed in again, or that was lost. The store was only read.
  pub record Replays (answer : Result Replayed Fault) (old new : S) : Type 0 where
    pub said : FindsRows meaning answer old new IsSaidOf
    pub keeps : Keeps meaning old new
    pub lost : IfErr answer IsLost
