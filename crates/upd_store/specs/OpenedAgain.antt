-- What the next open finds in the files that a crash leaves, or a close.
use Rattle.std.specs.Prelude.{◌≡◌, ◌⊎◌}
use Rattle.sqlite_disk.specs.declared.Disk.{Ghosts as DiskGhosts}
use Rattle.sqlite_disk.specs.declared.Files.{Files}
use Rattle.sqlite_store.specs.declared.store.FileStore.{FileStore}
use Rattle.sqlite_store.specs.FileStore.{files, state, view}
use Rattle.sqlite_trees.specs.Tree.{Trees}
use Rattle.sqlite_trees.specs.View.{IsClean}
use Rattle.sqlite_wal.specs.Files.{outcomes}
use Rattle.sqlite_wal.specs.Reads.{AreClean}
use Rattle.sqlite_wal.specs.Recovery.{Image}
use Rattle.sqlite.specs.declared.error.Error.{Error}
use Rattle.sqlite.specs.Closing.{IsCopied}
use Rattle.sqlite.specs.Files.{FailsToClose, HoldsDatabase, IsClosed, file_state}
use Rattle.sqlite.specs.Held.{Held}

-- an open finds these trees in files that held this: if they held a database, these are its trees
abbrev pub IsFound : Image → Trees → Type 0
IsFound held found = (db : Trees) → HoldsDatabase held db → found ≡ db

-- whatever a crash leaves of the files of this store, the next open finds trees that are allowed
abbrev pub OpensAgain : {D : Type 0} {g : DiskGhosts D} → (Trees → Type 0) → FileStore D g → Type 0
OpensAgain allowed store = (left : Image) → (state store).may_leave left → (found : Trees) → IsFound left found → ∥ allowed found ∥₁

-- whatever a crash leaves of these files, the next open finds these trees
abbrev pub OpensAs : {D : Type 0} (g : DiskGhosts D) → Files D → Trees → Type 0
OpensAs g files trees = (left : Image) → outcomes g files.log files.db left → (found : Trees) → IsFound left found → ∥ found ≡ trees ∥₁

-- these are the files of this store
abbrev pub AreFilesOf : {D : Type 0} {g : DiskGhosts D} → Files D → FileStore D g → Type 0
AreFilesOf these store = (these.log, these.db) ≡ files store

-- The files of this connection were closed. A crash leaves no more of them than of the connection. The log was copied into the file, and the next open finds
-- what was committed; or why it can't be copied.
pub record Closes {D : Type 0} {g : DiskGhosts D} (these : Files D) (conn : Held (FileStore D g)) : Type 0 where
  pub last : FileStore D g
  pub are : AreFilesOf these last
  pub closed : IsClosed conn last
  pub copied : (AreClean g these.log these.db → IsCopied conn these × OpensAs g these (file_state conn).committed.trees)
      ⊎ ((error : Error) × (IsClean (view last) → FailsToClose conn last error))
