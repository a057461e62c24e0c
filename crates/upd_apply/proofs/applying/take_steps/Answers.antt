use Rattle.upd_apply.proofs.Common.{◌+◌, ◌≤◌, arith, common_steps, next_most}
use Rattle.upd_apply.proofs.StepLemmas.{line_rises}
use Rattle.upd_apply.proofs.applying.take_steps.Goals as goal

pub loop-line-preserved : goal.loop-line-preserved
loop-line-preserved c =
    let rises : next_most c.take_step.new.state ≤ next_most c.loop-line.state + 1 = line_rises c.line-item.result _ _ c.in_ok-take_step.ensures in
    (grind (arith, common_steps), omega (arith, rises, c.loop-line.invariant.1))
