use Rattle.std.proofs.Common.{◌≡◌, ◌++◌, drop, filter}
use Rattle.upd_row_store.specs.Shifts.{is_behind}
use Rattle.upd_row_store.proofs.plans.behind.Given as goal

abbrev pub invariant-loop-row : goal.invariant-loop-row
invariant-loop-row l = l.own.items ++ filter (is_behind l.deck l.from) (drop l.row-index l.rows) ≡ filter (is_behind l.deck l.from) l.rows
