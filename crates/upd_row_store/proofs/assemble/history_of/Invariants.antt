use Rattle.upd_row_store.proofs.Common.{◌≡◌, map, take}
use Rattle.upd_row_store.proofs.assemble.history_of.Given as goal

abbrev pub invariant-loop-row : goal.invariant-loop-row
invariant-loop-row l = l.history.items ≡ map (λ r. r.entry) (take l.row-index l.own)
