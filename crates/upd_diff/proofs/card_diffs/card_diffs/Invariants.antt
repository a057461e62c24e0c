use Rattle.upd_diff.proofs.Common.{◌+◌, ◌-◌, ◌≤◌, length, map, take, AreCardDiffs, card_diff_view}
use Rattle.upd_diff.proofs.card_diffs.card_diffs.Given as goal

abbrev pub invariant-loop-i : goal.invariant-loop-i
invariant-loop-i l = (l.i ≤ length l.before) × (l.j ≤ length l.after)
    × AreCardDiffs (take l.i l.before) (take l.j l.after) (map card_diff_view l.card_diffs.items)

abbrev pub decreases-loop-i : goal.decreases-loop-i
decreases-loop-i l = (length l.before - l.i) + (length l.after - l.j)
