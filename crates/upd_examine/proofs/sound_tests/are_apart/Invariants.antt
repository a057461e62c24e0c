use Rattle.upd_examine.proofs.Common.{◌≡◌, ℕ, ◌+◌, ◌<◌, false, get_or, is_eq}
use Rattle.upd_examine.proofs.sound_tests.are_apart.Given as goal

abbrev pub invariant-loop-i : goal.invariant-loop-i
invariant-loop-i g l = (k : ℕ) (d : g.row.T.Denot) → k + 1 < l.i → is_eq (g.T.Ord.cmp (get_or l.items.items k d) (get_or l.items.items (k + 1) d)) ≡ false
