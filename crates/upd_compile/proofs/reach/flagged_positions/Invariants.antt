use Rattle.upd_compile.proofs.Common.{◌≡◌, ℕ, take, is_in, is_flagged}
use Rattle.upd_compile.proofs.reach.flagged_positions.Given as goal

abbrev pub invariant-loop-position : goal.invariant-loop-position
invariant-loop-position l = (k : ℕ) → is_in l.positions.items k ≡ is_flagged (take l.position l.flags) k
