use Rattle.upd_yank.proofs.Common.{◌≡◌, take, list_any, same_ref, CardRef}
use Rattle.upd_yank.proofs.touched_set.Touched.of.Given as goal

abbrev pub invariant-loop-card : goal.invariant-loop-card
invariant-loop-card l = (r : CardRef) → list_any (same_ref r) l.touched ≡ list_any (same_ref r) (take l.card-index l.cards)
