use Rattle.upd_core.proofs.Common.{take, AreHome}
use Rattle.upd_core.proofs.decks.note_decks.Given as goal

abbrev pub invariant-loop-deck : goal.invariant-loop-deck
invariant-loop-deck l = AreHome l.strays (take l.deck-index l.decks)
