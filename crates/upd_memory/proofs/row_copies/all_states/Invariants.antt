use Rattle.upd_memory.proofs.Common.{◌≡◌, ◌++◌, map, state_row}
use Rattle.upd_memory.proofs.row_copies.all_states.Given as goal

abbrev pub invariant-loop-card : goal.invariant-loop-card
invariant-loop-card l = l.rows.items ++ map state_row l.card-iterator ≡ map state_row l.statuses.entries
