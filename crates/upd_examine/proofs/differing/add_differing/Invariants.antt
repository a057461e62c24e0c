use Rattle.upd_examine.proofs.Common.{◌≤◌, ◌+◌, ◌-◌}
use Rattle.std.proofs.Common.{vec_len}
use Rattle.upd_examine.proofs.differing.add_differing.Given as goal

abbrev pub invariant-loop-i : goal.invariant-loop-i
invariant-loop-i l = (l.i ≤ vec_len l.stored) × (l.k ≤ vec_len l.own)

abbrev pub decreases-loop-i : goal.decreases-loop-i
decreases-loop-i l = (vec_len l.stored - l.i) + (vec_len l.own - l.k)
