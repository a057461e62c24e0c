use Rattle.upd_yank.proofs.Common.{◌≡◌, ◌++◌, map, drop, change_view, kept_status, status_changes}
use Rattle.upd_yank.proofs.status_changes.add_status_changes.Given as goal

abbrev pub invariant-loop-card : goal.invariant-loop-card
invariant-loop-card l =
    map change_view l.changes.items ++ status_changes (kept_status l.known) (drop l.card-index l.found)
    ≡ map change_view l.initial.changes.items ++ status_changes (kept_status l.known) l.found
