use Rattle.upd_memory.proofs.Common.{◌≡◌, take, flat_map, entries_at, AreFound}
use Rattle.upd_memory.proofs.row_copies.entries_of.Given as goal

abbrev pub invariant-loop-card : goal.invariant-loop-card
invariant-loop-card l = (l.rows.items ≡ flat_map (entries_at l.entries) (take l.card-index l.cards)) × AreFound l.entries l.rest
