use Rattle.upd_core.proofs.Common.{◌≡◌, ◌++◌, map, drop, flat_map, counted_card}
use Rattle.upd_core.proofs.counted.add_cards_of.Given as goal

abbrev pub invariant-loop-deck : goal.invariant-loop-deck
invariant-loop-deck l =
    l.found.items ++ flat_map (λ d. map (counted_card l.idents d.ident) d.cards) (drop l.deck-index l.decks)
    ≡ l.initial.found.items ++ flat_map (λ d. map (counted_card l.idents d.ident) d.cards) l.decks
