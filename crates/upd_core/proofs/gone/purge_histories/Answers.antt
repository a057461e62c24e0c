use Rattle.upd_core.proofs.Common.{without_entries, is_gone}
use Rattle.upd_core.proofs.InPlaceLemmas.{map_over_more}
use Rattle.upd_core.proofs.gone.purge_histories.Goals as goal

pub loop-card-preserved : goal.loop-card-preserved
loop-card-preserved c =
    map_over_more (without_entries (is_gone c.args.gone.now)) _ _ _ c.card-item.result _ _ c.loop-card-test.true c.loop-card.invariant c.card.view_is
    (rw c.purge_history.ensures)
