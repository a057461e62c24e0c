use Rattle.upd_memory.proofs.Common.{◌≡◌, ◌++◌}
use Rattle.upd_memory.proofs.from_memory.pairs_of.Given as goal

abbrev pub invariant-loop-card : goal.invariant-loop-card
invariant-loop-card l = l.pairs.items ++ l.card-iterator ≡ l.statuses.entries
