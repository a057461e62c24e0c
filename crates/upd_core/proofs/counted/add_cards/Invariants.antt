use Rattle.upd_core.proofs.Common.{◌≡◌, ◌++◌, map, drop, counted_card}
use Rattle.upd_core.proofs.counted.add_cards.Given as goal

abbrev pub invariant-loop-card : goal.invariant-loop-card
invariant-loop-card l =
    l.found.items ++ map (counted_card l.idents l.deck) (drop l.card-index l.cards)
    ≡ l.initial.found.items ++ map (counted_card l.idents l.deck) l.cards
