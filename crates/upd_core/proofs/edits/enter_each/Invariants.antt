use Rattle.upd_core.proofs.Common.{◌≡◌, map, take, drop, ◌++◌, entered}
use Rattle.upd_core.proofs.edits.enter_each.Given as goal

abbrev pub invariant-loop-i : goal.invariant-loop-i
invariant-loop-i l =
    l.cards ≡ map (entered l.entry) (take l.i l.initial.cards) ++ drop l.i l.initial.cards
