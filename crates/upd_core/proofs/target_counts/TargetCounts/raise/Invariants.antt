use Rattle.upd_core.proofs.Common.{◌≡◌, ◌+◌, ◌<◌, take, count_by, Target, count_in, is_same}
use Rattle.std.proofs.Common.{◌^◌}
use Rattle.upd_core.proofs.target_counts.TargetCounts.raise.Given as goal

abbrev pub invariant-loop-target : goal.invariant-loop-target
invariant-loop-target l = (t : Target) → count_in l.initial.self t + count_by (is_same t) l.targets < 2 ^ 32 →
    count_in l.self t ≡ count_in l.initial.self t + count_by (is_same t) (take l.target-index l.targets)
