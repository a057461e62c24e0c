use Rattle.upd_memory.proofs.Common.{◌≡◌, map, take, change_view}
use Rattle.upd_memory.proofs.change_log.copy_changes.Given as goal

abbrev pub invariant-loop-change : goal.invariant-loop-change
invariant-loop-change l = map change_view l.copies.items ≡ map change_view (take l.change-index l.changes)
