use Rattle.upd_diff.proofs.Common.{◌≡◌, ◌++◌, map, drop, change_view, targets_new}
use Rattle.upd_diff.proofs.row_changes.add_targets.Given as goal

abbrev pub invariant-loop-ord : goal.invariant-loop-ord
invariant-loop-ord l =
    map change_view l.changes.items ++ targets_new l.card l.ord (drop l.ord l.targets) ≡ map change_view l.initial.changes.items
    ++ targets_new l.card 0 l.targets
