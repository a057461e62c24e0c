use Rattle.upd_examine.proofs.Common.{◌≡◌, take, Target, count_in, put_counts}
use Rattle.upd_examine.proofs.stored_states.by_target.Given as goal

abbrev pub invariant-loop-target : goal.invariant-loop-target
invariant-loop-target l = (t : Target) → count_in l.counts t ≡ put_counts (take l.target-index l.stored) (λ _. 0) t
