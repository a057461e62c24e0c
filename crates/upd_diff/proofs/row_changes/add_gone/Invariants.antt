use Rattle.upd_diff.proofs.Common.{◌≡◌, ◌++◌, map, drop, flat_map, change_view, card_diff_view, gone_of}
use Rattle.upd_diff.proofs.row_changes.add_gone.Given as goal

abbrev pub invariant-loop-card_diff : goal.invariant-loop-card_diff
invariant-loop-card_diff l =
    map change_view l.changes.items ++ flat_map (gone_of l.idents) (map card_diff_view (drop l.card_diff-index l.card_diffs))
    ≡ map change_view l.initial.changes.items
    ++ flat_map (gone_of l.idents) (map card_diff_view l.card_diffs)
