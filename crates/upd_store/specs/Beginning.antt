-- What a crash may leave of a library that is being made.
use Rattle.std.specs.Prelude.{◌≡◌, IsTrue}
use Rattle.sqlite_trees.specs.Tree.{Trees}
use Rattle.sqlite.specs.State.{State}
use Rattle.upd_sql.specs.Commits.{ShowsIn}
use Rattle.upd_sql.specs.Making.{no_rows}
use Rattle.upd_sql.specs.Schema.{no_schema}

-- a library without rows, and only where there was no table
abbrev pub MayBegin : State → Trees → Type 0
MayBegin old trees = IsTrue old.is_open × (old.committed.schema ≡ no_schema) × ShowsIn trees no_rows
