-- When the tables of a database hold lists of rows.
use Rattle.std.specs.Prelude.{◌≡◌, ℕ, zero, suc, List, [], ◌∷◌, map, drop}
use Rattle.std.specs.List.{AllZip}
use Rattle.sqlite_value.specs.Order.{Row}
use Rattle.sqlite_trees.specs.declared.store.Shape.TheVariants as shape
use Rattle.sqlite_trees.specs.Tree.{Trees}
use Rattle.sqlite_trees.specs.View.{IsShaped}
use Rattle.sqlite_schema.specs.declared.schema.Table.{Table}
use Rattle.sqlite_schema.specs.declared.schema.Schema.{Schema}
use Rattle.sqlite.specs.Effect.{Database}

-- The rows of one table, rowids aside, in the order in which they came.
abbrev pub HasRows : Trees → Table → List Row → Type 0
HasRows trees t rows = map (drop 1) (trees t.tree) ≡ rows

-- the same, and the rowids rise
abbrev pub HoldsRows : Trees → Table → List Row → Type 0
HoldsRows trees t rows = IsShaped shape.Table (trees t.tree) × HasRows trees t rows

-- A database has a schema, and its tables in turn have these lists of rows.
pub record HasAllRows (schema : Schema) (all : List (List Row)) (db : Database) : Type 0 where
  pub schema_is : db.schema ≡ schema
  pub rows_are : AllZip (HasRows db.trees) schema.tables all

-- the same, and in each table the rowids rise
pub record HoldsAllRows (schema : Schema) (all : List (List Row)) (db : Database) : Type 0 where
  pub schema_is : db.schema ≡ schema
  pub rows_are : AllZip (HoldsRows db.trees) schema.tables all

-- the rows of the table at a place
abbrev pub rows_at : ℕ → List (List Row) → List Row
rows_at k [] = []
rows_at zero (rows ∷ all) = rows
rows_at (suc k) (rows ∷ all) = rows_at k all

-- with other rows in the table at a place
abbrev pub with_rows : ℕ → List Row → List (List Row) → List (List Row)
with_rows k rows [] = []
with_rows zero rows (old ∷ all) = rows ∷ all
with_rows (suc k) rows (old ∷ all) = old ∷ with_rows k rows all
