-- The tables of a library's file.
use Rattle.std.specs.Prelude.{ℕ, List, [], ◌∷◌, codes}
use Rattle.sqlite_schema.specs.declared.schema.Kind.TheVariants.{Integer, Text, Blob}
use Rattle.sqlite_schema.specs.declared.schema.Column.{Column}
use Rattle.sqlite_schema.specs.declared.schema.Table.{Table}
use Rattle.sqlite_schema.specs.declared.schema.Schema.{Schema}
use Rattle.sqlite_catalog.specs.Change.{created}
use Rattle.upd_sqlite.specs.Keyed.{keyed, needed}

abbrev pub number : List ℕ → Column
number name = needed name Integer

abbrev pub text : List ℕ → Column
text name = needed name Text

abbrev pub bytes : List ℕ → Column
bytes name = needed name Blob

-- the columns of each table, in order

abbrev pub meta_columns : List Column
meta_columns = text (codes "k") ∷ number (codes "v") ∷ []

abbrev pub ident_columns : List Column
ident_columns = number (codes "age") ∷ text (codes "name") ∷ number (codes "kind") ∷ number (codes "noprop") ∷ number (codes "held") ∷ []

abbrev pub card_columns : List Column
card_columns = text (codes "ident") ∷ number (codes "num") ∷ number (codes "deck") ∷ number (codes "pos") ∷ text (codes "body") ∷ []

abbrev pub entry_columns : List Column
entry_columns = text (codes "ident") ∷ number (codes "num") ∷ number (codes "ord") ∷ number (codes "who") ∷ number (codes "active") ∷ []

abbrev pub target_columns : List Column
target_columns = text (codes "ident") ∷ number (codes "num") ∷ number (codes "ord") ∷ number (codes "kind") ∷ number (codes "target") ∷ number
    (codes "deck") ∷ []

abbrev pub run_columns : List Column
run_columns = text (codes "site") ∷ number (codes "num") ∷ number (codes "mode") ∷ bytes (codes "body") ∷ number (codes "accepted") ∷ bytes (codes "reply") ∷ []

abbrev pub state_columns : List Column
state_columns = text (codes "ident") ∷ number (codes "num") ∷ number (codes "active") ∷ []

abbrev pub count_columns : List Column
count_columns = number (codes "kind") ∷ number (codes "target") ∷ number (codes "deck") ∷ number (codes "n") ∷ []

abbrev pub mark_columns : List Column
mark_columns = text (codes "site") ∷ number (codes "mark") ∷ []

-- the tables as their statements define them

abbrev pub meta : Table
meta = keyed 0 (codes "meta") meta_columns (1 ∷ [])

abbrev pub idents : Table
idents = keyed 0 (codes "idents") ident_columns (1 ∷ [])

abbrev pub cards : Table
cards = keyed 0 (codes "cards") card_columns (1 ∷ 2 ∷ [])

abbrev pub entries : Table
entries = keyed 0 (codes "entries") entry_columns (1 ∷ 2 ∷ 3 ∷ [])

abbrev pub targets : Table
targets = keyed 0 (codes "targets") target_columns (1 ∷ 2 ∷ 3 ∷ [])

abbrev pub runs : Table
runs = keyed 0 (codes "runs") run_columns (1 ∷ 2 ∷ [])

abbrev pub states : Table
states = keyed 0 (codes "states") state_columns (1 ∷ 2 ∷ [])

abbrev pub counts : Table
counts = keyed 0 (codes "counts") count_columns (1 ∷ 2 ∷ 3 ∷ [])

abbrev pub settled : Table
settled = keyed 0 (codes "settled") mark_columns (1 ∷ [])

abbrev pub no_schema : Schema
no_schema = record { tables = []; indexes = []; views = [] }

-- the tables up to the runs, made one after another
abbrev pub schema_to_runs : Schema
schema_to_runs = created (created (created (created (created (created no_schema meta) idents) cards) entries) targets) runs

-- all nine
abbrev pub library_schema : Schema
library_schema = created (created (created schema_to_runs states) counts) settled
