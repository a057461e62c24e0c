use Rattle.upd_yank.proofs.Common.{◌≡◌, take, stays_on, count_in, is_taken_by}
use Rattle.upd_yank.proofs.cascade.stays_on.Given as goal

abbrev pub invariant-loop-i : goal.invariant-loop-i
invariant-loop-i l =
    stays_on (is_taken_by (count_in l.counts) l.deck) (take l.i l.history) ≡ stays_on (is_taken_by (count_in l.counts) l.deck) l.history
