use Rattle.upd_memory.proofs.Common.{◌≡◌, take}
use Rattle.upd_memory.proofs.list_tables.copied_runs.Given as goal

abbrev pub invariant-loop-run : goal.invariant-loop-run
invariant-loop-run l = l.copies.items ≡ take l.run-index l.runs
