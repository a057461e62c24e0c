-- What a migration does to the tables.
use Rattle.std.specs.Prelude.{◌≡◌, ℕ, [], IsTrue}
use Rattle.sqlite_trees.specs.Tree.{Trees}
use Rattle.sqlite.specs.Effect.{Database}
use Rattle.sqlite.specs.State.{State}
use Rattle.upd_core.specs.Library.{LibraryView}
use Rattle.upd_core.specs.Sound.{IsSound, IsWhole}
use Rattle.upd_records.specs.Rows.{Rows, Shows, ShowsStates}
use Rattle.upd_sql.specs.Commits.{ShowsIn}
use Rattle.upd_sql.specs.LibraryTables.{ShowsTables, HoldsTables}
use Rattle.upd_store.specs.Version.{HasVersion}
use Rattle.upd_migrate.specs.declared.older_version.Version.{Version}
use Rattle.upd_migrate.specs.declared.older_version.Version.TheVariants.{First, Second, Third}
use Rattle.upd_migrate.specs.Older.{ShowsAs, number_of, schema_of}

-- the tables of a version with those that it lacks, which have no rows
abbrev pub completed : Version → Rows → Rows
completed First rows = record rows { states = []; counts = []; settled = [] }
completed Second rows = record rows { settled = [] }
completed Third rows = rows

-- Tables with the statuses and counts of a library, and all other rows as before.
pub record IsFilled (l : LibraryView) (rows after : Rows) : Type 0 where
  pub same : after ≡ record rows { states = after.states; counts = after.counts }
  pub states : ShowsStates after l

-- The tables of a version after a migration: no row is removed or changed; statuses and counts are added where the version has none.
abbrev pub IsMigrated : Version → LibraryView → Rows → Rows → Type 0
IsMigrated First l rows after = IsFilled l (completed First rows) after
IsMigrated Second l rows after = after ≡ completed Second rows
IsMigrated Third l rows after = after ≡ rows

-- rows of a whole and sound library
pub record AreLibraryRows (l : LibraryView) (rows : Rows) : Type 0 where
  pub sound : IsSound l
  pub whole : IsWhole l
  pub shows : Shows rows l

-- the database has the present schema, and these rows after a migration
abbrev pub HasMigrated : Version → LibraryView → Rows → Database → Type 0
HasMigrated version l rows db = (after : Rows) × IsMigrated version l rows after × ShowsTables after db

-- the database holds some tables of which this is so
abbrev pub HoldsAfter : (Rows → Type 0) → Database → Type 0
HoldsAfter P db = (after : Rows) × P after × HoldsTables after db

-- A file of a version was migrated: the tables of a library are.
abbrev pub MigratesFrom : Version → State → State → Type 0
MigratesFrom version old new = (l : LibraryView) (rows : Rows) → AreLibraryRows l rows → ShowsAs version rows old.committed
    → HasMigrated version l rows new.committed

-- A file was migrated, whichever version it had.
abbrev pub Migrates : State → State → Type 0
Migrates old new = (version : Version) → MigratesFrom version old new

-- what a crash may leave of the migration of a file of a version
abbrev pub MayMigrateFrom : Version → State → Trees → Type 0
MayMigrateFrom version old trees = IsTrue old.is_open × ((l : LibraryView) (rows : Rows) → AreLibraryRows l rows → ShowsAs version rows old.committed
    → (after : Rows) × IsMigrated version l rows after × ShowsIn trees after)

-- The database has the schema of some version, and no other version in `meta`.
abbrev pub HasKnown : Database → Type 0
HasKnown db = (version : Version) × (db.schema ≡ schema_of version) × ((n : ℕ) → HasVersion n db → n ≡ number_of version)

-- And whichever version it had. A file of no known version stays as it is.
abbrev pub MayMigrate : State → Trees → Type 0
MayMigrate old trees = IsTrue old.is_open × HasKnown old.committed × ((version : Version) (l : LibraryView) (rows : Rows) → AreLibraryRows l rows
    → ShowsAs version rows old.committed
    → (after : Rows) × IsMigrated version l rows after × ShowsIn trees after)
