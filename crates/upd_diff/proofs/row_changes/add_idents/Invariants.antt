use Rattle.upd_diff.proofs.Common.{◌≡◌, ◌++◌, map, drop, change_view, ident_changes}
use Rattle.upd_diff.proofs.row_changes.add_idents.Given as goal

abbrev pub invariant-loop-i : goal.invariant-loop-i
invariant-loop-i l =
    map change_view l.changes.items ++ ident_changes (drop l.i l.before) (drop l.i l.after) ≡ map change_view l.initial.changes.items
    ++ ident_changes l.before l.after
