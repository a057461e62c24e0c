use Rattle.upd_correct.proofs.Common.{◌≡◌, map, take}
use Rattle.upd_correct.proofs.checked_texts.are_same_texts.Given as goal

abbrev pub invariant-loop-i : goal.invariant-loop-i
invariant-loop-i l = map (λ t. t.now) (take l.i l.some) ≡ map (λ t. t.now) (take l.i l.others)
