use Rattle.upd_row_store.proofs.Common.{rules, is_lt, card_order}
use Rattle.std.proofs.lemmas.List.Sorted.{IsPartitionPoint-from_clause}
use Rattle.upd_row_store.proofs.ByCardLemmas.{below_parts, parted_at}
use Rattle.upd_row_store.proofs.by_card.start_of.Goals as goal

pub returns-then-begins_at-clause-start : goal.returns-then-begins_at-clause-start
returns-then-begins_at-clause-start g c =
    let yes = c.if-begins_at.true in
    parted_at (λ r. is_lt (card_order (g.T.OfCard.of r) c.args.card.now)) c.args.rows.now c.args.guess
    (below_parts g.T.OfCard.of c.args.card.now c.args.rows.now c.requires) (c.begins_at.ensures.within yes)
    (λ d some. c.begins_at.ensures.behind yes some d) (λ d more. c.begins_at.ensures.in_front yes more d)

pub returns-clause-start : goal.returns-clause-start
returns-clause-start g c =
    IsPartitionPoint-from_clause (λ r. is_lt (card_order (g.T.OfCard.of r) c.args.card.now)) c.args.rows.now _ c.partition_point.ensures.partitioned
    (below_parts g.T.OfCard.of c.args.card.now c.args.rows.now c.requires) (λ a r f k. search rules)
