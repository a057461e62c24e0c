use Rattle.upd_memory.proofs.Common.{◌∙◌, sym, take}
use Rattle.upd_row_store.specs.Ranges.{is_among}
use Rattle.upd_memory.specs.RowsByKey.{is_in}
use Rattle.upd_memory.proofs.CardSetLemmas.{put_in, seen_more}
use Rattle.upd_memory.proofs.card_sets.set_of.Goals as goal

pub loop-card-preserved : goal.loop-card-preserved
loop-card-preserved c = λ x.
    let cards = c.args.cards.now in
    let i = c.loop-card.card-index in
    let card = c.card-item.result in
    c.in_ok-add_to_set.ensures x ∙ put_in card x (is_in c.loop-card.set x) (is_among (take i cards) x) (c.loop-card.invariant x)
    ∙ sym (seen_more cards i card x c.loop-card-test.true c.card-item.is)
