use Rattle.upd_memory.proofs.Common.{◌≡◌, ℕ, take, list_any, is_among, is_home}
use Rattle.upd_memory.proofs.row_copies.homes_of.Given as goal

abbrev pub invariant-loop-card : goal.invariant-loop-card
invariant-loop-card l = (d : ℕ) → is_among l.ages.items d ≡ list_any (λ c. is_home l.homes c d) (take l.card-index l.cards)
