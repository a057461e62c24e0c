use Rattle.std.proofs.Common.{None, drop}
use Rattle.upd_row_store.specs.Shifts.{IsChain}
use Rattle.upd_row_store.proofs.shift.are_apart.Given as goal

abbrev pub invariant-loop-shift : goal.invariant-loop-shift
invariant-loop-shift l = IsChain l.last (drop l.shift-index l.shifts) → IsChain None l.shifts
