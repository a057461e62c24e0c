use Rattle.upd_correct.proofs.Common.{◌≡◌, take}
use Rattle.upd_correct.proofs.checked_cards.are_same_cards.Given as goal

abbrev pub invariant-loop-i : goal.invariant-loop-i
invariant-loop-i l = take l.i l.old ≡ take l.i l.new
