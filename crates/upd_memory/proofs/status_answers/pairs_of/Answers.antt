use Rattle.upd_memory.proofs.Common.{Unbounded}
use Rattle.upd_memory.proofs.WalkLemmas.{range_found}
use Rattle.upd_memory.proofs.status_answers.pairs_of.Goals as goal

pub loop-card-init : goal.loop-card-init
loop-card-init c = (
  c.in_ok-pairs.ensures.items,
  range_found c.args.statuses.now Unbounded Unbounded c.range-rest.result (c.range-rest.ensures.in_range tt),
)
