use Rattle.upd_examine.proofs.Common.{◌≡◌, map, take, card_key}
use Rattle.upd_examine.proofs.row_keys.card_keys.Given as goal

abbrev pub invariant-loop-row : goal.invariant-loop-row
invariant-loop-row l = l.keys.items ≡ map card_key (take l.row-index l.rows)
