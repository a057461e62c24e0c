use Rattle.upd_diff.proofs.Common.{◌≡◌, ◌++◌, map, drop, AllByRecursion, filter, flat_map, ref_of, AreApart, key_of, card_after, card_diff_view, IsOf, stood_in}
use Rattle.std.proofs.Common.{not}
use Rattle.upd_diff.proofs.touched.add_touched.Given as goal

abbrev pub invariant-loop-card_diff : goal.invariant-loop-card_diff
invariant-loop-card_diff l =
    AreApart (map key_of l.before) → AllByRecursion (IsOf l.before l.sure) (map card_diff_view l.card_diffs)
    → AllByRecursion (IsOf l.before l.sure) (map card_diff_view (drop l.card_diff-index l.card_diffs))
    × (l.found.items
    ++ map (ref_of l.idents) (filter (λ c. not (stood_in l.before c)) (flat_map card_after (map card_diff_view (drop l.card_diff-index l.card_diffs))))
    ≡ l.initial.found.items
    ++ map (ref_of l.idents) (filter (λ c. not (stood_in l.before c)) (flat_map card_after (map card_diff_view l.card_diffs))))
