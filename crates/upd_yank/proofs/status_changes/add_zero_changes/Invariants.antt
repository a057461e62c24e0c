use Rattle.upd_yank.proofs.Common.{◌≡◌, ◌++◌, map, drop, flat_map, change_view, count_in, zero_changes}
use Rattle.upd_yank.proofs.status_changes.add_zero_changes.Given as goal

abbrev pub invariant-loop-target : goal.invariant-loop-target
invariant-loop-target l =
    map change_view l.changes.items ++ flat_map (zero_changes (count_in l.before) (count_in l.now)) (drop l.target-index l.listed)
    ≡ map change_view l.initial.changes.items ++ flat_map (zero_changes (count_in l.before) (count_in l.now)) l.listed
