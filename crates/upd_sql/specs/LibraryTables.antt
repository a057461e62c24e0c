-- When a database holds the tables of a library.
use Rattle.sqlite.specs.Effect.{Database}
use Rattle.upd_records.specs.Rows.{Rows}
use Rattle.upd_sqlite.specs.Stored.{HasAllRows, HoldsAllRows}
use Rattle.upd_sql.specs.Schema.{library_schema}
use Rattle.upd_sql.specs.Encoded.{stored}

-- the database has the library's schema, and these tables
abbrev pub ShowsTables : Rows → Database → Type 0
ShowsTables rows = HasAllRows library_schema (stored rows)

-- the same, and in each table the rowids rise
abbrev pub HoldsTables : Rows → Database → Type 0
HoldsTables rows = HoldsAllRows library_schema (stored rows)

-- no condition on the tables
abbrev pub AnyTables : Rows → Type 0
AnyTables rows = Unit {0}
