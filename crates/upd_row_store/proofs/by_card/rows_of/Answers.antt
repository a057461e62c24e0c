use Rattle.upd_row_store.proofs.ByCardLemmas.{rows_side_by_side}
use Rattle.upd_row_store.proofs.by_card.rows_of.Goals as goal

pub returns : goal.returns
returns g c =
    rows_side_by_side g.T.OfCard.of c.args.card.now c.args.rows.now c.requires c.start_of-start.result c.count_to-count.result
    c.start_of-start.ensures.bound c.count_to-count.ensures.bound c.start_of-start.ensures.start c.count_to-count.ensures.front
    c.count_to-count.ensures.next
