use Rattle.upd_compile.proofs.Common.{◌≡◌, drop, same_cards}
use Rattle.upd_compile.proofs.changes.same_cards.Given as goal

abbrev pub invariant-loop-i : goal.invariant-loop-i
invariant-loop-i l = same_cards (drop l.i l.was) (drop l.i l.cards) ≡ same_cards l.was l.cards
