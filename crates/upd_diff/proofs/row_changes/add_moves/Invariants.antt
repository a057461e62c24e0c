use Rattle.upd_diff.proofs.Common.{◌≡◌, ◌≤◌, ◌++◌, map, drop, change_view, card_diff_view, moves}
use Rattle.upd_diff.proofs.row_changes.add_moves.Given as goal

abbrev pub invariant-loop-card_diff : goal.invariant-loop-card_diff
invariant-loop-card_diff l =
    (l.from ≤ l.card_diff-index) × (l.to ≤ l.card_diff-index) × (map change_view l.changes.items
    ++ moves l.deck l.from l.to (map card_diff_view (drop l.card_diff-index l.card_diffs)) ≡ map change_view l.initial.changes.items
    ++ moves l.deck 0 0 (map card_diff_view l.card_diffs))
