use Rattle.std.proofs.Common.{◌≡◌, ◌++◌, drop}
use Rattle.std.specs.List.{flat_map}
use Rattle.upd_views.specs.RunLines.{run_line}
use Rattle.upd_views.proofs.runs.run_lines.Given as goal

abbrev pub invariant-loop-run : goal.invariant-loop-run
invariant-loop-run l = l.text.items ++ flat_map run_line (drop l.run-index l.runs) ≡ flat_map run_line l.runs
