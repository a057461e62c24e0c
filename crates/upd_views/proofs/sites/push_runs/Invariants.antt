use Rattle.std.proofs.Common.{◌≡◌, ◌++◌, drop, map}
use Rattle.upd_views.specs.SiteLines.{of_run}
use Rattle.upd_views.proofs.sites.push_runs.Given as goal

abbrev pub invariant-loop-run : goal.invariant-loop-run
invariant-loop-run l = l.sites.items ++ map of_run (drop l.run-index l.runs) ≡ l.initial.sites.items ++ map of_run l.runs
