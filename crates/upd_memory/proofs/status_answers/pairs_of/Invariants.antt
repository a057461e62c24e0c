use Rattle.upd_memory.proofs.Common.{◌≡◌, take, flat_map, AreFound, pairs_at}
use Rattle.upd_memory.proofs.status_answers.pairs_of.Given as goal

abbrev pub invariant-loop-card : goal.invariant-loop-card
invariant-loop-card l = (l.pairs.items ≡ flat_map (pairs_at l.statuses) (take l.card-index l.cards)) × AreFound l.statuses l.rest
