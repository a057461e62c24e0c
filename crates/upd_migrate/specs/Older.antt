-- The versions of the schema, and when a file has the tables of one.
use Rattle.std.specs.Prelude.{ℕ, List, [], ◌∷◌, take, drop}
use Rattle.sqlite_value.specs.Order.{Row}
use Rattle.sqlite_schema.specs.declared.schema.Schema.{Schema}
use Rattle.sqlite.specs.Effect.{Database}
use Rattle.upd_records.specs.Rows.{Rows}
use Rattle.upd_sqlite.specs.Stored.{HasAllRows, HoldsAllRows}
use Rattle.upd_sql.specs.Encoded.{stored, version_row}
use Rattle.upd_sql.specs.Making.{schema_up_to}
use Rattle.upd_sql.specs.Schema.{library_schema}
use Rattle.upd_migrate.specs.declared.older_version.Version.{Version}
use Rattle.upd_migrate.specs.declared.older_version.Version.TheVariants.{First, Second, Third}

-- the number in the file
abbrev pub number_of : Version → ℕ
number_of First = 1
number_of Second = 2
number_of Third = 3

-- The number of the library's tables that a version has: the first has none of statuses, counts and settled marks, the second none of marks.
abbrev pub tables_of : Version → ℕ
tables_of First = 6
tables_of Second = 8
tables_of Third = 9

abbrev pub schema_of : Version → Schema
schema_of version = schema_up_to (tables_of version)

-- the lists of rows of a version's tables, in the order of the schema
abbrev pub stored_in : Version → Rows → List (List Row)
stored_in version rows = take (tables_of version) ((version_row (number_of version) ∷ []) ∷ drop 1 (stored rows))

-- the database has a version's schema, and these rows in its tables; rows of other tables are ignored
abbrev pub ShowsAs : Version → Rows → Database → Type 0
ShowsAs version rows = HasAllRows (schema_of version) (stored_in version rows)

-- The database has all tables with these rows, and a version: rowids rise in every table.
abbrev pub HasTables : Version → Rows → Database → Type 0
HasTables version rows = HoldsAllRows library_schema ((version_row (number_of version) ∷ []) ∷ drop 1 (stored rows))
