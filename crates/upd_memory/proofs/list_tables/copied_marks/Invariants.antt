use Rattle.upd_memory.proofs.Common.{◌≡◌, take}
use Rattle.upd_memory.proofs.list_tables.copied_marks.Given as goal

abbrev pub invariant-loop-mark : goal.invariant-loop-mark
invariant-loop-mark l = l.copies.items ≡ take l.mark-index l.marks
