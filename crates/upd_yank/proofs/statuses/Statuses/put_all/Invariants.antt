use Rattle.upd_yank.proofs.Common.{◌≡◌, take, update_all, same_ref, CardRef, kept_status}
use Rattle.upd_yank.proofs.statuses.Statuses.put_all.Given as goal

abbrev pub invariant-loop-card : goal.invariant-loop-card
invariant-loop-card l = (r : CardRef) → kept_status l.self r ≡ update_all same_ref (kept_status l.initial.self) (take l.card-index l.found) r
