use Rattle.upd_examine.proofs.Common.{◌≡◌, drop}
use Rattle.upd_examine.specs.Grown.{are_entries_from}
use Rattle.upd_examine.proofs.grown.are_in_order.Given as goal

abbrev pub invariant-loop-entry : goal.invariant-loop-entry
invariant-loop-entry l = are_entries_from l.least (drop l.entry-index l.entries) ≡ are_entries_from 0 l.entries
