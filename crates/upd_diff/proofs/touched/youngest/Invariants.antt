use Rattle.upd_diff.proofs.Common.{ℕ, ◌<◌, ◌≤◌, CardView}
use Rattle.std.proofs.Common.{slice_index_or}
use Rattle.upd_diff.proofs.touched.youngest.Given as goal

abbrev pub invariant-loop-card : goal.invariant-loop-card
invariant-loop-card l = (i : ℕ) → i < l.card-index → (d : CardView) → (slice_index_or l.cards i d).ident ≤ l.youngest
