use Rattle.upd_memory.proofs.Common.{◌≡◌, ◌++◌, flat_map}
use Rattle.upd_memory.proofs.row_copies.all_entries.Given as goal

abbrev pub invariant-loop-own : goal.invariant-loop-own
invariant-loop-own l = l.rows.items ++ flat_map (λ e. e.1.items) l.own-iterator ≡ flat_map (λ e. e.1.items) l.entries.entries
