use Rattle.std.proofs.Common.{◌≡◌, ◌+◌, ◌≤◌, None, drop, count_by}
use Rattle.std.specs.List.{filter, last_or}
use Rattle.std.specs.Option.{option_copied}
use Rattle.upd_views.specs.IntroducingRun.{introduces}
use Rattle.upd_views.proofs.introducing_run.introducer.Given as goal

abbrev pub invariant-loop-run : goal.invariant-loop-run
invariant-loop-run l = (l.count ≤ l.run-index)
    × (l.count + count_by (introduces l.name) (drop l.run-index l.runs) ≡ count_by (introduces l.name) l.runs)
    × (last_or (option_copied l.last) (filter (introduces l.name) (drop l.run-index l.runs)) ≡ last_or None (filter (introduces l.name) l.runs))
