use Rattle.upd_core.proofs.Common.{◌≡◌, length, take, sum_by, capped}
use Rattle.upd_core.proofs.counts.target_count.Given as goal

abbrev pub invariant-loop-card : goal.invariant-loop-card
invariant-loop-card l = l.count ≡ capped (sum_by (λ c. length c.targets) (take l.card-index l.cards))
