use Rattle.upd_correct.proofs.Common.{◌≡◌, ◌++◌, drop, map}
use Rattle.upd_correct.specs.ListedDeck.{card_listed}
use Rattle.upd_correct.proofs.listed_deck.push_listed.Given as goal

abbrev pub invariant-loop-listed : goal.invariant-loop-listed
invariant-loop-listed l =
    l.deck.items ++ map (card_listed l.library) (drop l.listed-index l.cards) ≡ l.initial.deck.items ++ map (card_listed l.library) l.cards
