use Rattle.upd_yank.proofs.Common.{◌≡◌, drop, find, is_active_deck}
use Rattle.upd_yank.proofs.renewing.active_deck_aged.Given as goal

abbrev pub invariant-loop-deck : goal.invariant-loop-deck
invariant-loop-deck l = find (is_active_deck l.serial) (drop l.deck-index l.decks) ≡ find (is_active_deck l.serial) l.decks
