-- When bytes are the whole of a database, how a copy of one fails, and what a library is that is made anew.
use Rattle.std.specs.Prelude.{◌≡◌, ◌⊎◌, ℕ, false, List, [], IsTrue}
use Rattle.sqlite_disk.specs.Disk.{MoreFaults}
use Rattle.sqlite_disk.specs.declared.Disk.{Ghosts}
use Rattle.sqlite_disk.specs.declared.Files.{Files}
use Rattle.sqlite_wal.specs.Reads.{AreClean}
use Rattle.sqlite_trees.specs.Tree.{Trees}
use Rattle.sqlite_trees.specs.View.{IsClean}
use Rattle.sqlite_store.specs.declared.store.FileStore.{FileStore}
use Rattle.sqlite_store.specs.FileStore.{faults, view}
use Rattle.sqlite.specs.Closing.{IsCopied}
use Rattle.sqlite.specs.Files.{HoldsDatabase, file_state}
use Rattle.sqlite.specs.Held.{Held}
use Rattle.sqlite.specs.State.{State, HasCleanDisk}
use Rattle.upd_records.specs.Rows.{Rows}
use Rattle.upd_sql.specs.Commits.{ShowsIn}
use Rattle.upd_keep.specs.Replaying.{AreStoredTables}
use Rattle.upd_keep.specs.declared.stored_tables.StoredTables.{StoredTables}

-- a file with these bytes, and without a log, holds the database
abbrev pub IsWholeCopy : List ℕ → Trees → Type 0
IsWholeCopy bytes trees = ∥ HoldsDatabase (record { log = []; db = bytes }) trees ∥₁

-- A library that was open in a connection.
module _ {D : Type 0} {g : Ghosts D} (conn : Held (FileStore D g)) where
  -- it was closed into its file, whose bytes were all read: they are a whole copy, where the disk is honest
  abbrev pub IsReadWhole : Type 0
  IsReadWhole =
      (bytes : List ℕ) × (files : Files D)
      × (AreClean g files.log files.db → IsTrue (file_state conn).is_open × IsWholeCopy bytes (file_state conn).committed.trees)

  -- it was not open, or the disk failed once more while it was closed
  abbrev pub FailsToClose : Type 0
  FailsToClose =
      (last : FileStore D g) × (IsClean (view last) → ((file_state conn).is_open ≡ false) ⊎ MoreFaults (file_state conn).faults (faults last))

  -- it was closed into its file, and the disk failed once more while that was read
  abbrev pub FailsToReadFile : Type 0
  FailsToReadFile =
      (files : Files D) × (file : D) × (AreClean g files.log files.db → IsCopied conn files) × MoreFaults (g.faults files.db) (g.faults file)

  -- why there is no copy, apart from memory
  abbrev pub FailsToCopy : Type 0
  FailsToCopy = FailsToClose ⊎ FailsToReadFile

-- all that trees can show are these rows, with their runs in this order
abbrev pub ShowsOnly : StoredTables → Trees → Type 0
ShowsOnly all trees = (it : Rows) → ShowsIn trees it → AreStoredTables it all

-- so it is of what was committed
abbrev pub HasOnlyRows : StoredTables → State → Type 0
HasOnlyRows all made = HasCleanDisk made → IsTrue made.is_open → ShowsOnly all made.committed.trees

-- A library was only read: what was committed stays, and a crash leaves nothing that it could not leave before.
pub record IsOnlyRead (old new : State) : Type 0 where
  pub clean : HasCleanDisk new → HasCleanDisk old
  pub was_open : HasCleanDisk new → IsTrue new.is_open → IsTrue old.is_open
  pub same : HasCleanDisk new → IsTrue new.is_open → new.committed.trees ≡ old.committed.trees
  pub crash : HasCleanDisk new → (trees : Trees) → new.may_leave trees → old.may_leave trees

-- The library in a connection was only read, and bytes were made that are a whole database. What was read is all that both show.
abbrev pub IsMadeAnew : {D : Type 0} {g : Ghosts D} → Held (FileStore D g) → Type 0
IsMadeAnew {D} {g} conn = (seen : Held (FileStore D g)) × IsOnlyRead (file_state conn) (file_state seen)
    × ((all : StoredTables) × (HasCleanDisk (file_state seen) → ShowsOnly all (file_state conn).committed.trees)
    × ((bytes : List ℕ) × (made : Trees) × ShowsOnly all made × IsWholeCopy bytes made))
