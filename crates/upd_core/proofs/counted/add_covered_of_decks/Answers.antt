use Rattle.upd_core.proofs.Common.{◌≡◌, ◌++◌, ◌∙◌, map, List, filter, the_view, DeckView, ref_of, covers, CardRef}
use Rattle.upd_core.proofs.FlatLemmas.{flat_more}
use Rattle.upd_core.proofs.counted.add_covered_of_decks.Goals as goal

pub loop-deck-preserved : goal.loop-deck-preserved
loop-deck-preserved c =
    let of_deck : DeckView → List CardRef = λ d. map (ref_of c.args.idents.now) (filter (λ k. covers d.ident k c.args.target) d.cards) in
    let added : c.add_covered_of_deck.new.found.items ≡ c.loop-deck.found.items ++ of_deck
    (the_view c.deck.inside) = rw c.deref.ensures.value at c.in_ok-add_covered_of_deck.ensures in
    flat_more of_deck c.args.decks.now c.loop-deck.deck-index c.deck-item.result (the_view c.deck.inside) _ _ _ c.loop-deck-test.true (c.deck.view_is
    ∙ c.deck-item.is) added c.loop-deck.invariant
