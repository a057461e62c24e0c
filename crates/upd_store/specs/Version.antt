-- The version in a library's file.
use Rattle.std.specs.Prelude.{◌≡◌, ◌⊎◌, ℕ, [], ◌∷◌}
use Rattle.sqlite_schema.specs.declared.schema.Schema.{Schema}
use Rattle.sqlite.specs.Effect.{Database}
use Rattle.upd_sqlite.specs.Stored.{HasRows}
use Rattle.upd_sql.specs.Schema.{meta}
use Rattle.upd_sql.specs.Encoded.{version_row}
use Rattle.upd_sql.specs.Wanted.{first_tables}

-- The schema of a library's file of any version: versions 1, 2 and 3 have the first six, eight and nine tables.
abbrev pub IsLibrarySchema : Schema → Type 0
IsLibrarySchema s = (s ≡ first_tables 6) ⊎ ((s ≡ first_tables 8) ⊎ (s ≡ first_tables 9))

-- The table `meta` has one row, with the version; without a row the version is 0.
pub record HasVersion (v : ℕ) (db : Database) : Type 0 where
  pub schema : IsLibrarySchema db.schema
  pub rows : HasRows db.trees meta (version_row v ∷ []) ⊎ ((v ≡ 0) × HasRows db.trees meta [])
