use Rattle.upd_diff.proofs.Common.{◌≡◌, drop, stood_in}
use Rattle.upd_diff.proofs.touched.stood_in.Given as goal

abbrev pub invariant-loop-old : goal.invariant-loop-old
invariant-loop-old l = stood_in (drop l.old-index l.before) l.card ≡ stood_in l.before l.card
