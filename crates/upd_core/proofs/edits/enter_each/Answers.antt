use Rattle.upd_core.proofs.Common.{refl, entered}
use Rattle.upd_core.proofs.EnterLemmas.{all_left}
use Rattle.upd_core.proofs.InPlaceLemmas.{map_over_more}
use Rattle.upd_core.proofs.edits.enter_each.Goals as goal

pub returns-in-Err-clause-err : goal.returns-in-Err-clause-err
returns-in-Err-clause-err c = rw c.leave_each.ensures (
    all_left c.args.entry _ _ _ c.index-cards-i.result _ _ c.loop-i-test.true c.loop-i.invariant refl c.in-Err.ensures.err)

pub loop-i-preserved : goal.loop-i-preserved
loop-i-preserved c =
    map_over_more (entered c.args.entry) _ _ _ c.index-cards-i.result _ _ c.loop-i-test.true c.loop-i.invariant refl c.in_default.ensures.ok
