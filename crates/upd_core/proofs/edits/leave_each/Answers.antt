use Rattle.upd_core.proofs.Common.{without_last}
use Rattle.upd_core.proofs.InPlaceLemmas.{map_over_more}
use Rattle.upd_core.proofs.edits.leave_each.Goals as goal

pub loop-card-preserved : goal.loop-card-preserved
loop-card-preserved c =
    map_over_more without_last _ _ _ c.card-item.result _ _ c.loop-card-test.true c.loop-card.invariant c.card.view_is (rw c.drop_last.ensures)
