use Rattle.upd_examine.proofs.Common.{◌≡◌, ◌++◌, ◌∙◌, List, flat_map, flat_more, the_view, DeckView, ref_of, EntryRow, entry_rows}
use Rattle.upd_examine.proofs.own_rows.entry_rows_of.Goals as goal

pub loop-deck-preserved : goal.loop-deck-preserved
loop-deck-preserved c =
    let of_deck : DeckView → List EntryRow = λ d. flat_map (λ k. entry_rows (ref_of c.args.idents.now k) 0 k.history) d.cards in
    let added : c.add_entries-in-loop-deck.new.rows.items ≡ c.loop-deck.rows.items ++ of_deck
    (the_view c.deck.inside) = rw c.deref.ensures.value at c.in_ok-add_entries-2.ensures in
    flat_more of_deck c.args.decks.now c.loop-deck.deck-index c.deck-item.result (the_view c.deck.inside) _ _ _ c.loop-deck-test.true (c.deck.view_is
    ∙ c.deck-item.is) added c.loop-deck.invariant
