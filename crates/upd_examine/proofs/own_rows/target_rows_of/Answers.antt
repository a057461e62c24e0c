use Rattle.upd_examine.proofs.Common.{◌≡◌, ◌++◌, ◌∙◌, List, flat_map, flat_more, the_view, DeckView, ref_of, TargetRow, target_rows}
use Rattle.upd_examine.proofs.own_rows.target_rows_of.Goals as goal

pub loop-deck-preserved : goal.loop-deck-preserved
loop-deck-preserved c =
    let of_deck : DeckView → List TargetRow = λ d. flat_map (λ k. target_rows (ref_of c.args.idents.now k) 0 k.targets) d.cards in
    let added : c.add_targets-in-loop-deck.new.rows.items ≡ c.loop-deck.rows.items ++ of_deck
    (the_view c.deck.inside) = rw c.deref.ensures.value at c.in_ok-add_targets-2.ensures in
    flat_more of_deck c.args.decks.now c.loop-deck.deck-index c.deck-item.result (the_view c.deck.inside) _ _ _ c.loop-deck-test.true (c.deck.view_is
    ∙ c.deck-item.is) added c.loop-deck.invariant
