use Rattle.upd_edit.proofs.Common.{◌≡◌, drop, if◌then◌else◌}
use Rattle.upd_edit.specs.PurgesSince.{purged_after, runs_purge}
use Rattle.upd_edit.proofs.purges_since.purged_after.Given as goal

abbrev pub invariant-loop-run : goal.invariant-loop-run
invariant-loop-run l =
    (if l.is_after then runs_purge l.last l.idents (drop l.run-index l.runs) else purged_after l.since l.last l.idents (drop l.run-index l.runs))
    ≡ purged_after l.since l.last l.idents l.runs
