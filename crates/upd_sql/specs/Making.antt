-- A file while its tables are made, one after another.
use Rattle.std.specs.Prelude.{◌≡◌, ℕ, zero, suc, ◌+◌, false, List, [], ◌∷◌, ◌++◌, take, Result, Ok, IsTrue, OnOk}
use Rattle.sqlite_value.specs.Order.{Row}
use Rattle.sqlite_schema.specs.declared.schema.Table.{Table}
use Rattle.sqlite_schema.specs.declared.schema.Schema.{Schema}
use Rattle.sqlite_schema.specs.declared.command.Command.TheVariants.{CreateTable}
use Rattle.sqlite_resolve.specs.Compile.{table_defined_by}
use Rattle.sqlite_catalog.specs.Change.{created}
use Rattle.sqlite.specs.declared.error.Error.{Error}
use Rattle.sqlite.specs.Does.{lacks_sequence}
use Rattle.sqlite.specs.Effect.{Database}
use Rattle.sqlite.specs.Given.{IsPlain}
use Rattle.sqlite.specs.Listing.{understood}
use Rattle.sqlite.specs.State.{State, HasCleanDisk}
use Rattle.sqlite.proofs.Callers.{command_of, statement_of}
use Rattle.upd_records.specs.Rows.{Rows}
use Rattle.sqlite_trees.specs.Tree.{Trees}
use Rattle.upd_sql.specs.Commits.{ShowsIn}
use Rattle.upd_sqlite.specs.Steps.{Steps}
use Rattle.upd_sqlite.specs.Stored.{HoldsAllRows}
use Rattle.upd_sql.specs.Schema.{meta, idents, cards, entries, targets, runs, states, counts, settled, no_schema}

-- the tables in the order in which they are made
abbrev pub all_tables : List Table
all_tables = meta ∷ idents ∷ cards ∷ entries ∷ targets ∷ runs ∷ states ∷ counts ∷ settled ∷ []

abbrev pub with_tables : List Table → Schema → Schema
with_tables [] schema = schema
with_tables (t ∷ tables) schema = with_tables tables (created schema t)

-- the schema with the first n tables
abbrev pub schema_up_to : ℕ → Schema
schema_up_to n = with_tables (take n all_tables) no_schema

-- n tables with no rows
abbrev pub no_rows_in : ℕ → List (List Row)
no_rows_in zero = []
no_rows_in (suc n) = no_rows_in n ++ [] ∷ []

-- the database has the first n tables, all of them empty
abbrev pub HasEmptyTables : ℕ → Database → Type 0
HasEmptyTables n = HoldsAllRows (schema_up_to n) (no_rows_in n)

-- an empty library's tables
abbrev pub no_rows : Rows
no_rows = record { idents = []; cards = []; entries = []; targets = []; runs = []; states = []; counts = []; settled = [] }

-- a statement that makes the next table
pub record MakesNext (n : ℕ) (sql : List ℕ) : Type 0 where
  pub is : command_of (understood (schema_up_to n) sql) ≡ CreateTable
  pub plain : IsPlain (understood (schema_up_to n) sql)
  pub table : Table
  pub defined : table_defined_by (statement_of sql (understood (schema_up_to n) sql)) ≡ Ok table
  pub lacks : lacks_sequence (created (schema_up_to n) table) ≡ false
  pub next : created (schema_up_to n) table ≡ schema_up_to (n + 1)
  pub rows : no_rows_in n ++ [] ∷ [] ≡ no_rows_in (n + 1)

-- a step that transforms from one kind of database to another
pub record Transforms {X : Type 0} (Before After : Database → Type 0) (old new : State) (r : Result X Error) : Type 0 where
  pub steps : Steps old new r
  pub transformed : HasCleanDisk new → OnOk r (IsTrue old.in_transaction → Before old.now → After new.now)

-- a statement makes the next table, whichever that is
abbrev pub MakesTable : {X : Type 0} → List ℕ → State → State → Result X Error → Type 0
MakesTable sql old new r = (n : ℕ) → MakesNext n sql → Transforms (HasEmptyTables n) (HasEmptyTables (n + 1)) old new r

-- three statements make the next tables, whichever these are
abbrev pub MakesThree : {X : Type 0} → (first second third : List ℕ) → State → State → Result X Error → Type 0
MakesThree first second third old new r = (n : ℕ) → MakesNext n first → MakesNext (n + 1) second → MakesNext (n + 1 + 1) third
    → Transforms (HasEmptyTables n) (HasEmptyTables (n + 1 + 1 + 1)) old new r

-- what a crash may leave while the tables are made
abbrev pub MayMake : State → Trees → Type 0
MayMake old trees = IsTrue old.is_open × (old.committed.schema ≡ no_schema → ShowsIn trees no_rows)
