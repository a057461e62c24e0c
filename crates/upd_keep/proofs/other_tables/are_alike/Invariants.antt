use Rattle.upd_keep.proofs.Common.{◌≡◌, length, take}
use Rattle.std.proofs.Common.{◌-◌, ◌≤◌}
use Rattle.upd_keep.proofs.other_tables.are_alike.Given as goal

abbrev pub invariant-loop-at : goal.invariant-loop-at
invariant-loop-at g l = (length l.some ≡ length l.others) × (l.at ≤ length l.some) × (take l.at l.some ≡ take l.at l.others)

abbrev pub decreases-loop-at : goal.decreases-loop-at
decreases-loop-at g l = length l.some - l.at
