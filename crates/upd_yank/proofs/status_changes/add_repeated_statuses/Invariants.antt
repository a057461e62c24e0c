use Rattle.upd_yank.proofs.Common.{◌≡◌, ◌++◌, map, drop, change_view, kept_status, all_repeated_statuses}
use Rattle.upd_yank.proofs.status_changes.add_repeated_statuses.Given as goal

abbrev pub invariant-loop-change : goal.invariant-loop-change
invariant-loop-change l =
    map change_view l.changes.items ++ all_repeated_statuses (kept_status l.now) (map change_view (drop l.change-index l.run))
    ≡ map change_view l.initial.changes.items ++ all_repeated_statuses (kept_status l.now) (map change_view l.run)
