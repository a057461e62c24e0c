use Rattle.upd_compile.proofs.Common.{◌+◌, not, map, count_by}
use Rattle.std.proofs.Common.{vec_len}
use Rattle.upd_compile.proofs.ReachingLemmas.{IsReaching}
use Rattle.upd_compile.proofs.reach.reached_positions.Given as goal

abbrev pub invariant-loop-position : goal.invariant-loop-position
invariant-loop-position l = IsReaching (map (λ list. list.items) l.followers) l.fn.seeds.items l.flags.items l.work.items

abbrev pub decreases-loop-position : goal.decreases-loop-position
decreases-loop-position l = count_by not l.flags.items + vec_len l.work
