use Rattle.upd_core.proofs.Common.{◌≡◌, take, stays_on, is_taken}
use Rattle.upd_core.proofs.live.stays_on.Given as goal

abbrev pub invariant-loop-i : goal.invariant-loop-i
invariant-loop-i l =
    stays_on (is_taken l.targets l.deck) (take l.i l.history) ≡ stays_on (is_taken l.targets l.deck) l.history
