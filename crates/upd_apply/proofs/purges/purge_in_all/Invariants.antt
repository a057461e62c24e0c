use Rattle.upd_apply.proofs.Common.{◌≡◌, length, purged_in_all}
use Rattle.upd_apply.proofs.purges.purge_in_all.Given as goal

abbrev pub invariant-loop-left : goal.invariant-loop-left
invariant-loop-left l = purged_in_all l.left.items l.library ≡ purged_in_all l.initial.left.items l.initial.library

abbrev pub decreases-loop-left : goal.decreases-loop-left
decreases-loop-left l = length l.left.items
