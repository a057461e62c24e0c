use Rattle.upd_diff.proofs.Common.{◌≡◌, drop, length, same_history}
use Rattle.upd_diff.proofs.touched.is_same_history.Given as goal

abbrev pub invariant-loop-i : goal.invariant-loop-i
invariant-loop-i l =
    (length l.other ≡ length l.history) × (same_history (drop l.i l.history) (drop l.i l.other) ≡ same_history l.history l.other)
