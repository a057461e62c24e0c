use Rattle.upd_core.proofs.Common.{◌≡◌, map}
use Rattle.upd_core.proofs.target_counts.TargetCounts.all.Given as goal

abbrev pub invariant-loop-target : goal.invariant-loop-target
invariant-loop-target l = l.all.items ≡ map (λ p. (p.0.now, p.1.now)) l.yielded
