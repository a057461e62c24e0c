use Rattle.upd_correct.proofs.Common.{◌≡◌, take}
use Rattle.upd_correct.proofs.checked_idents.are_same_idents.Given as goal

abbrev pub invariant-loop-i : goal.invariant-loop-i
invariant-loop-i l = take l.i l.olds ≡ take l.i l.news
