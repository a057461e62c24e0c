use Rattle.upd_examine.proofs.Common.{◌≡◌, drop, list_all, is_run_right}
use Rattle.upd_examine.proofs.stored_runs.are_each_right.Given as goal

abbrev pub invariant-loop-run : goal.invariant-loop-run
invariant-loop-run l = list_all (is_run_right l.marks) (drop l.run-index l.runs) ≡ list_all (is_run_right l.marks) l.runs
