use Rattle.upd_sql.proofs.Common.{◌≡◌, take, library_schema}
use Rattle.upd_sql.proofs.schema.are_tables.Given as goal

abbrev pub invariant-loop-at : goal.invariant-loop-at
invariant-loop-at l = take l.at l.tables ≡ take l.at library_schema.tables
