use Rattle.upd_memory.proofs.Common.{◌≡◌, ◌++◌, take}
use Rattle.upd_memory.proofs.row_copies.add_copies.Given as goal

abbrev pub invariant-loop-card : goal.invariant-loop-card
invariant-loop-card l = l.rows.items ≡ l.initial.rows.items ++ take l.card-index l.cards
