use Rattle.upd_core.proofs.Common.{◌≡◌, map, take, drop, ◌++◌, without_last}
use Rattle.upd_core.proofs.edits.leave_each.Given as goal

abbrev pub invariant-loop-card : goal.invariant-loop-card
invariant-loop-card l =
    l.cards ≡ map without_last (take l.card-index l.initial.cards) ++ drop l.card-index l.initial.cards
