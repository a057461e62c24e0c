-- The columns of a table as they are asked for.
use Rattle.std.specs.Prelude.{ℕ, ◌+◌, true, List, [], ◌∷◌, codes, take}
use Rattle.sqlite_schema.specs.declared.schema.Column.{Column}
use Rattle.sqlite_schema.specs.declared.schema.Index.{Index}
use Rattle.sqlite_schema.specs.declared.schema.Schema.{Schema}
use Rattle.sqlite_value.specs.Keys.{plain}
use Rattle.upd_sqlite.specs.Keyed.{needed}
use Rattle.upd_sql.specs.Schema.{library_schema}
use Rattle.upd_sql.specs.declared.schema.Wanted.{Wanted}

-- the column that is wanted
abbrev pub column_of : Wanted → Column
column_of w = needed w.name.now w.kind

-- the index that SQLite makes for the key of the table in a tree
abbrev pub key_index : ℕ → List ℕ → List ℕ → Index
key_index tree name key = record { name = name; tree = tree + 1; table = tree; columns = key; order = plain; is_unique = true }

-- the indexes of the nine tables, in order
abbrev pub key_indexes : List Index
key_indexes =
    key_index 0 (codes "sqlite_autoindex_meta_1") (1 ∷ [])
    ∷ key_index 2 (codes "sqlite_autoindex_idents_1") (1 ∷ [])
    ∷ key_index 4 (codes "sqlite_autoindex_cards_1") (1 ∷ 2 ∷ [])
    ∷ key_index 6 (codes "sqlite_autoindex_entries_1") (1 ∷ 2 ∷ 3 ∷ [])
    ∷ key_index 8 (codes "sqlite_autoindex_targets_1") (1 ∷ 2 ∷ 3 ∷ [])
    ∷ key_index 10 (codes "sqlite_autoindex_runs_1") (1 ∷ 2 ∷ [])
    ∷ key_index 12 (codes "sqlite_autoindex_states_1") (1 ∷ 2 ∷ [])
    ∷ key_index 14 (codes "sqlite_autoindex_counts_1") (1 ∷ 2 ∷ 3 ∷ [])
    ∷ key_index 16 (codes "sqlite_autoindex_settled_1") (1 ∷ [])
    ∷ []

-- the first n tables of the library with the indexes of their keys, and nothing else
abbrev pub first_tables : ℕ → Schema
first_tables n = record { tables = take n library_schema.tables; indexes = take n key_indexes; views = [] }
