use Rattle.upd_diff.proofs.Common.{◌≡◌, ◌≤◌, ◌++◌, map, drop, change_view, card_diff_view, brought}
use Rattle.upd_diff.proofs.row_changes.add_brought.Given as goal

abbrev pub invariant-loop-card_diff : goal.invariant-loop-card_diff
invariant-loop-card_diff l =
    (l.pos ≤ l.card_diff-index) × (map change_view l.changes.items ++ brought l.idents l.deck l.pos (map card_diff_view (drop l.card_diff-index l.card_diffs))
    ≡ map change_view l.initial.changes.items ++ brought l.idents l.deck 0 (map card_diff_view l.card_diffs))
