use Rattle.upd_yank.proofs.Common.{◌≡◌, take, Target, count_in, put_counts}
use Rattle.upd_yank.proofs.cache.put_counts.Given as goal

abbrev pub invariant-loop-target : goal.invariant-loop-target
invariant-loop-target l = (t : Target) → count_in l.counts t ≡ put_counts (take l.target-index l.rows) (count_in l.initial.counts) t
