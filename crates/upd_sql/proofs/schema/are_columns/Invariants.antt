use Rattle.upd_sql.proofs.Common.{◌≡◌, map, take}
use Rattle.upd_sql.specs.Wanted.{column_of}
use Rattle.upd_sql.proofs.schema.are_columns.Given as goal

abbrev pub invariant-loop-at : goal.invariant-loop-at
invariant-loop-at l = take l.at l.columns ≡ map column_of (take l.at l.wanted)
