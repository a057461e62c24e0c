use Rattle.upd_core.proofs.Common.{◌≡◌, drop, find, is_deck}
use Rattle.upd_core.proofs.deck.deck_aged.Given as goal

abbrev pub invariant-loop-deck : goal.invariant-loop-deck
invariant-loop-deck l = find (is_deck l.age) (drop l.deck-index l.decks) ≡ find (is_deck l.age) l.decks
