use Rattle.upd_memory.proofs.Common.{◌≡◌, drop, rise_from}
use Rattle.upd_memory.proofs.active_rows.are_by_place.Given as goal

abbrev pub invariant-loop-row : goal.invariant-loop-row
invariant-loop-row l = rise_from l.last (drop l.row-index l.rows) ≡ rise_from 0 l.rows
