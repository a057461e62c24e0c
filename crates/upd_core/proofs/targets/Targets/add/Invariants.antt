use Rattle.upd_core.proofs.Common.{◌≡◌, ◌++◌, drop}
use Rattle.upd_core.proofs.targets.Targets.add.Given as goal

abbrev pub invariant-loop-i : goal.invariant-loop-i
invariant-loop-i l = l.self ≡ drop l.i l.targets ++ l.initial.self
