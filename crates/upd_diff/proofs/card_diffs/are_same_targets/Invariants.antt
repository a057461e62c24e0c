use Rattle.upd_diff.proofs.Common.{◌≡◌, length, take}
use Rattle.upd_diff.proofs.card_diffs.are_same_targets.Given as goal

abbrev pub invariant-loop-i : goal.invariant-loop-i
invariant-loop-i l = (length l.others ≡ length l.targets) × (take l.i l.targets ≡ take l.i l.others)
