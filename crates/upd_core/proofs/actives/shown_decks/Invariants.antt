use Rattle.upd_core.proofs.Common.{◌≡◌, take}
use Rattle.upd_core.proofs.actives.shown_decks.Given as goal

abbrev pub invariant-loop-deck : goal.invariant-loop-deck
invariant-loop-deck l = l.shown.items ≡ take l.deck-index l.decks
