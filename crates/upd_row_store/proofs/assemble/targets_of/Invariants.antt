use Rattle.upd_row_store.proofs.Common.{◌≡◌, map, take}
use Rattle.upd_row_store.proofs.assemble.targets_of.Given as goal

abbrev pub invariant-loop-row : goal.invariant-loop-row
invariant-loop-row l = l.targets.items ≡ map (λ r. r.target) (take l.row-index l.own)
