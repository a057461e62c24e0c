use Rattle.upd_correct.proofs.Common.{map, take, AreReadFrom}
use Rattle.upd_correct.proofs.edited_deck.read_decks.Given as goal

abbrev pub invariant-loop-i : goal.invariant-loop-i
invariant-loop-i l = AreReadFrom l.library l.set l.initial.refusals.items (map (λ t. t.now) (take l.i l.line-items)) l.decks.items l.refusals.items
