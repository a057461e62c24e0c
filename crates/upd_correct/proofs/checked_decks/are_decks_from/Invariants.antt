use Rattle.upd_correct.proofs.Common.{◌+◌, drop, AreDecksFrom}
use Rattle.upd_correct.proofs.checked_decks.are_decks_from.Given as goal

abbrev pub invariant-loop-i : goal.invariant-loop-i
invariant-loop-i l = AreDecksFrom (l.number + l.i) (drop l.i l.decks) → AreDecksFrom l.number l.decks
