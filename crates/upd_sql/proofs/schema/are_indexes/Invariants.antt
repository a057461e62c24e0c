use Rattle.upd_sql.proofs.Common.{◌≡◌, take, key_indexes}
use Rattle.upd_sql.proofs.schema.are_indexes.Given as goal

abbrev pub invariant-loop-at : goal.invariant-loop-at
invariant-loop-at l = take l.at l.indexes ≡ take l.at key_indexes
