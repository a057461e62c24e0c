-- What commands find in a file, and what they make of it. The file is given by the bytes that it and its log held before.
use Rattle.std.specs.Prelude.{◌≡◌, ◌⊎◌, ℕ, Result, IfErr, IsErrAnd, IsTrue, MatchResult, OnErr, OnOk}
use Rattle.sqlite_disk.specs.declared.Disk.{Ghosts as DiskGhosts}
use Rattle.sqlite_store.specs.declared.store.FileStore.{FileStore}
use Rattle.sqlite_store.specs.FileStore.{view}
use Rattle.sqlite_trees.specs.Tree.{Trees}
use Rattle.sqlite_wal.specs.Recovery.{Image}
use Rattle.sqlite.specs.Effect.{Database}
use Rattle.sqlite.specs.Files.{AreFoundIn, HoldsDatabase, file_state}
use Rattle.sqlite.specs.Held.{Held}
use Rattle.sqlite.specs.Start.{FindsIn}
use Rattle.sqlite.specs.State.{State, HasCleanDisk, Survives}
use Rattle.upd_text.specs.declared.fault.Fault.{Fault}
use Rattle.upd_text.specs.declared.fault.FaultKind.TheVariants.{Write}
use Rattle.upd_records.specs.Rows.{Rows}
use Rattle.upd_row_store.specs.declared.meaning.Meaning.{Ghosts}
use Rattle.upd_row_store.specs.Keeping.{IsLater, IsShown}
use Rattle.upd_sql.specs.Commits.{ShowsIn}
use Rattle.upd_sql.specs.LibraryTables.{ShowsTables}
use Rattle.upd_sql.specs.Making.{no_rows}
use Rattle.upd_sql.specs.Schema.{library_schema, no_schema}
use Rattle.upd_store.specs.Faults.{IsUnopened}
use Rattle.upd_store.specs.TreeReads.{IsLibrary}
use Rattle.upd_store.specs.Version.{HasVersion}
use Rattle.upd_migrate.specs.Migrated.{HasKnown, MayMigrate, Migrates}

-- The tables of a connection were migrated; after a fault they are as before.
pub record MigratesState (ended : Result (Unit {0}) Fault) (old new : State) : Type 0 where
  pub done : HasCleanDisk new → IsTrue new.is_open → OnOk ended (Migrates old new)
  pub known : HasCleanDisk new → IsTrue new.is_open → OnOk ended (HasKnown old.committed)
  pub present : HasCleanDisk new → IsTrue new.is_open → old.committed.schema ≡ library_schema → new.committed ≡ old.committed
  pub undone : HasCleanDisk new → IsTrue new.is_open → OnErr ended (new.committed ≡ old.committed)
  pub version : IfErr ended (λ e. HasCleanDisk new → (v : ℕ) → HasVersion v old.committed → (e.at ≡ v) ⊎ (e.at ≡ 0))
  pub crash : Survives old new (MayMigrate old)

-- The connection is to a library that the file held.
pub record IsLibraryIn (held : Image) (opened : State) : Type 0 where
  pub found : HasCleanDisk opened → IsTrue opened.is_open → FindsIn held opened
  pub ours : HasCleanDisk opened → IsTrue opened.is_open → opened.committed.schema ≡ library_schema

-- The connection is to an empty library that was made in the file, which held no table.
pub record IsMadeIn (held : Image) (made : State) : Type 0 where
  pub shows : HasCleanDisk made → IsTrue made.is_open × ShowsTables no_rows made.committed
  pub empty : HasCleanDisk made → (found : Database) × (found.schema ≡ no_schema)
      × ((trees : Trees) → HoldsDatabase held trees → found.trees ≡ trees)

-- Connections to files.
module _ {D : Type 0} {g : DiskGhosts D} where
  -- the tables of a connection were migrated, and of the last connection this holds
  abbrev pub MigratesTables : Held (FileStore D g) → Result (Unit {0}) Fault → (Held (FileStore D g) → Type 0) → Type 0
  MigratesTables conn ended Left = (last : Held (FileStore D g)) × MigratesState ended (file_state conn) (file_state last) × Left last

  -- an empty library was made in the file, and of its connection this holds
  abbrev pub MakesLibrary : Image → (Held (FileStore D g) → Type 0) → Type 0
  MakesLibrary held Left = (made : Held (FileStore D g)) × IsMadeIn held (file_state made) × Left made

module _ {D : Type 0} (g : DiskGhosts D) where
  -- the file was opened and migrated, and of the last connection this holds; or it can't be opened
  abbrev pub MigratesLibrary : Image → Result (Unit {0}) Fault → (Held (FileStore D g) → Type 0) → Type 0
  MigratesLibrary held ended Left =
      ((conn : Held (FileStore D g)) × (HasCleanDisk (file_state conn) → FindsIn held (file_state conn))
      × MigratesTables conn ended Left) ⊎ IsErrAnd ended IsUnopened

  -- this holds of the library in the file, where a copy of it was made or can't be written; or it can't be opened
  abbrev pub Copies : (Held (FileStore D g) → Type 0) → Image → Result (Unit {0}) Fault → Type 0
  Copies Read held ended =
      ((conn : Held (FileStore D g)) × IsLibraryIn held (file_state conn)
      × MatchResult ended (λ _. Read conn) (λ fault. fault.kind ≡ Write → Read conn)) ⊎ IsErrAnd ended IsUnopened

module _ {S : Type 0} (meaning : Ghosts S) where
  open meaning use {is_honest, is_open, may_leave}

  -- The store read its rows into memory: it shows what it showed, and a crash leaves no more.
  pub record IsWarmed (old new : S) : Type 0 where
    pub later : IsLater meaning old new
    pub shows : is_honest new → is_open new → (rows : Rows) → IsShown meaning rows old → IsShown meaning rows new
    pub crash : is_honest new → (i : meaning.Image) → may_leave new i → may_leave old i

  -- What a store over a file has: its trees, and that they have the library's tables.
  module _ (trees_of : S → Trees) (IsOurs : S → Type 0) (held : Image) where
    -- The store is over a library that the file held, and shows its tables.
    pub record IsOpened (s : S) : Type 0 where
      pub holds : is_honest s → is_open s → (trees : Trees) → HoldsDatabase held trees → trees_of s ≡ trees
      pub reads : is_honest s → is_open s → AreFoundIn held (trees_of s)
      pub ours : is_honest s → is_open s → IsOurs s
      pub shown : (rows : Rows) → ShowsIn (trees_of s) rows → IsShown meaning rows s

    -- the library in the file was opened, and this was done to the store over it
    abbrev pub OnFile : (S → S → Type 0) → Type 0
    OnFile did = (old : S) × (new : S) × IsOpened old × did old new

module _ {S D : Type 0} {g : DiskGhosts D} (meaning : Ghosts S) where
  -- the library in the file was opened through SQL, and this was done to the store over its connection
  abbrev pub ThroughSql : (S → Held (FileStore D g)) → Image → (S → S → Type 0) → Type 0
  ThroughSql conn_of = OnFile meaning (λ s. (file_state (conn_of s)).committed.trees) (λ s. (file_state (conn_of s)).committed.schema ≡ library_schema)

  -- so it was below SQL, to the store over its trees
  abbrev pub BelowSql : (S → FileStore D g) → Image → (S → S → Type 0) → Type 0
  BelowSql store_of = OnFile meaning (λ s. (view (store_of s)).committed) (λ s. IsLibrary (view (store_of s)).committed)
