use Rattle.upd_yank.proofs.Common.{◌≡◌, if◌then◌else◌, take, list_any, option_or, same_ref, CardRef, kept_status}
use Rattle.upd_yank.proofs.statuses.Statuses.keep.Given as goal

abbrev pub invariant-loop-card : goal.invariant-loop-card
invariant-loop-card l = (r : CardRef) → kept_status l.self r
    ≡ (if list_any (λ k. same_ref k.card r) (take l.card-index l.cards) then option_or (kept_status l.known r)
    (kept_status l.initial.self r) else kept_status l.initial.self r)
