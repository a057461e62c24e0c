use Rattle.upd_examine.proofs.Common.{◌≡◌, map, take, run_key}
use Rattle.upd_examine.proofs.stored_runs.run_keys.Given as goal

abbrev pub invariant-loop-run : goal.invariant-loop-run
invariant-loop-run l = l.keys.items ≡ map run_key (take l.run-index l.runs)
