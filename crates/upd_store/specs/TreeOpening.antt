-- What an open below SQL finds.
use Rattle.std.specs.Prelude.{◌≡◌, ℕ, true, List, length, map, IsTrue}
use Rattle.sqlite_disk.specs.declared.Disk.{Ghosts}
use Rattle.sqlite_wal.specs.Recovery.{Image}
use Rattle.sqlite_trees.specs.Tree.{Trees}
use Rattle.sqlite_trees.specs.declared.store.Shape.{Shape}
use Rattle.sqlite_trees.specs.declared.store.Shape.TheVariants.{Table}
use Rattle.sqlite_pool.specs.File.{in_use}
use Rattle.sqlite_pool.specs.Stored.{Recovers}
use Rattle.sqlite_store.specs.declared.catalog.Wanted.{Wanted}
use Rattle.sqlite_store.specs.declared.store.FileStore.{FileStore}
use Rattle.sqlite_store.specs.declared.store.open.Unopened.{Unopened}
use Rattle.sqlite_store.specs.Db.{rows_at}
use Rattle.sqlite_store.specs.FileStore.{state, view}
use Rattle.sqlite_store.specs.Joined.{joined}
use Rattle.sqlite_store.specs.Listing.{IsOurs, file_trees, listed_from}
use Rattle.sqlite_store.specs.Unopened.{image, state_of}
use Rattle.sqlite.specs.Files.{AreFoundIn, HoldsDatabase}
use Rattle.sqlite.specs.Opening.{unrooted}
use Rattle.sqlite.specs.Steps.{IsFresh}

-- As `FindsIn` of a connection: if the files held a database, these are its trees.
pub record FindsTrees (image : Image) (found : Trees) : Type 0 where
  pub holds : (db : Trees) → HoldsDatabase image db → found ≡ db
  pub reads : AreFoundIn image found

-- The store was opened on the pages of the files, with a schema that lists the objects that they list.
pub record IsAttached {D : Type 0} {g : Ghosts D} (old : Unopened D g) (store : FileStore D g) : Type 0 where
  pub clean : IsTrue (state_of old).is_clean
  pub fresh : IsFresh (view store)
  pub is_open : IsTrue (view store).is_open
  pub found : Recovers (state_of old).page_size (image old) (state store).committed
  pub wanted : List Wanted
  pub ours : ∥ IsOurs (state_of old).page_size true wanted (state store).committed ∥₁
  pub reads : (view store).trees ≡ file_trees (state_of old).page_size wanted (state store).committed
  pub layouts : List (Shape × ℕ)
  pub lists : listed_from 0 wanted
      ≡ joined (map unrooted (rows_at (state_of old).page_size (in_use (state_of old).page_size (state store).committed) Table 1)) layouts
  pub each : length layouts
      ≡ length (rows_at (state_of old).page_size (in_use (state_of old).page_size (state store).committed) Table 1)
