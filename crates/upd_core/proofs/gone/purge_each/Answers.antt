use Rattle.upd_core.proofs.Common.{deck_without, is_gone}
use Rattle.upd_core.proofs.InPlaceLemmas.{map_over_more}
use Rattle.upd_core.proofs.gone.purge_each.Goals as goal

pub loop-deck-preserved : goal.loop-deck-preserved
loop-deck-preserved c =
    map_over_more (deck_without (is_gone c.args.gone.now)) _ _ _ c.deck-item.result _ _ c.loop-deck-test.true c.loop-deck.invariant c.deck.view_is
    (rw c.purge_cards.ensures)
