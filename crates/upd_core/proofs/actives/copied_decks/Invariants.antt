use Rattle.upd_core.proofs.Common.{◌≡◌, take}
use Rattle.upd_core.proofs.actives.copied_decks.Given as goal

abbrev pub invariant-loop-deck : goal.invariant-loop-deck
invariant-loop-deck l = l.copies.items ≡ take l.deck-index l.decks
