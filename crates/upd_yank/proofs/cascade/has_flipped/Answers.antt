use Rattle.upd_yank.proofs.Common.{arith, common_steps}
use Rattle.upd_yank.proofs.UnflippedLemmas.{some_flipped}
use Rattle.upd_yank.proofs.cascade.has_flipped.Goals as goal
use Rattle.upd_yank.proofs.cascade.has_flipped.Goals.{then-has_flipped_of, else-has_flipped_of}

pub returns : goal.returns
returns c =
    some_flipped c.args.before.now c.args.now.now c.if-has_flipped_of.result
    (elim c.if-has_flipped_of.branch [ then-has_flipped_of w ↦ grind (arith, common_steps) | else-has_flipped_of w ↦ grind (arith, common_steps) ])
