use Rattle.upd_diff.proofs.Common.{ap, arith, DeckView}
use Rattle.upd_diff.proofs.TouchedLemmas.{rising_step}
use Rattle.upd_diff.proofs.touched.are_rising.Goals as goal

pub loop-deck-preserved : goal.loop-deck-preserved
loop-deck-preserved c = λ rising.
    c.loop-deck.invariant (rising_step c.args.decks.now c.loop-deck.deck-index c.loop-deck.last c.deck.inside.ident c.deck-item.result c.loop-deck-test.true
    c.deck-item.is (ap (λ (d : DeckView). d.ident) c.deck.view_is) (omega arith) rising)
