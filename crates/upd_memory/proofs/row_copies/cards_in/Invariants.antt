use Rattle.upd_memory.proofs.Common.{◌≡◌, map, take}
use Rattle.upd_memory.proofs.row_copies.cards_in.Given as goal

abbrev pub invariant-loop-row : goal.invariant-loop-row
invariant-loop-row l = l.cards.items ≡ map (λ r. r.card) (take l.row-index l.rows)
