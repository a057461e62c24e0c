use Rattle.upd_diff.proofs.Common.{◌≡◌, ◌≤◌, drop, length, begins}
use Rattle.upd_diff.proofs.row_changes.begins.Given as goal

abbrev pub invariant-loop-i : goal.invariant-loop-i
invariant-loop-i l =
    (length l.history ≤ length l.later) × (begins (drop l.i l.history) (drop l.i l.later) ≡ begins l.history l.later)
