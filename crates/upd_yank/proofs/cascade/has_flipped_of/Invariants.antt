use Rattle.upd_yank.proofs.Common.{◌≡◌, drop, list_any, is_flipped, count_in}
use Rattle.upd_yank.proofs.cascade.has_flipped_of.Given as goal

abbrev pub invariant-loop-target : goal.invariant-loop-target
invariant-loop-target l =
    list_any (λ p. is_flipped (count_in l.before) (count_in l.now) p.0) (drop l.target-index l.listed)
    ≡ list_any (λ p. is_flipped (count_in l.before) (count_in l.now) p.0) l.listed
