use Rattle.upd_core.proofs.Common.{refl, unheld, is_gone}
use Rattle.upd_core.proofs.InPlaceLemmas.{map_over_more}
use Rattle.upd_core.proofs.gone.unhold.Goals as goal

pub loop-ident-preserved : goal.loop-ident-preserved
loop-ident-preserved c =
    map_over_more (unheld (is_gone c.args.gone.now)) _ _ _ c.ident-item.result _ _ c.loop-ident-test.true c.loop-ident.invariant refl c.unheld.ensures
