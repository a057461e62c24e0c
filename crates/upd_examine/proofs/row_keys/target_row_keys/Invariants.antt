use Rattle.upd_examine.proofs.Common.{◌≡◌, map, take, target_row_key}
use Rattle.upd_examine.proofs.row_keys.target_row_keys.Given as goal

abbrev pub invariant-loop-row : goal.invariant-loop-row
invariant-loop-row l = l.keys.items ≡ map target_row_key (take l.row-index l.rows)
