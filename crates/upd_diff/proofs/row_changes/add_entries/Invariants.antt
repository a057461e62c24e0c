use Rattle.upd_diff.proofs.Common.{◌≡◌, ◌+◌, ◌++◌, map, drop, change_view, entries_new}
use Rattle.upd_diff.proofs.row_changes.add_entries.Given as goal

abbrev pub invariant-loop-i : goal.invariant-loop-i
invariant-loop-i l =
    map change_view l.changes.items ++ entries_new l.card (l.from + l.i) (drop l.i l.entries)
    ≡ map change_view l.initial.changes.items ++ entries_new l.card l.from l.entries
