use Rattle.upd_memory.proofs.Common.{rules, Unbounded}
use Rattle.upd_memory.proofs.WalkLemmas.{range_found}
use Rattle.upd_memory.proofs.row_copies.entries_of.Goals as goal

pub loop-card-init : goal.loop-card-init
loop-card-init c = (
  search rules,
  range_found c.args.entries.now Unbounded Unbounded c.range-rest.result (c.range-rest.ensures.in_range tt),
)
