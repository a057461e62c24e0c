use Rattle.upd_diff.proofs.Common.{◌≡◌, ◌++◌, map, drop, flat_map, change_view, moves}
use Rattle.upd_diff.proofs.row_changes.add_all_moves.Given as goal

abbrev pub invariant-loop-deck : goal.invariant-loop-deck
invariant-loop-deck l =
    map change_view l.changes.items ++ flat_map (λ k. moves k.deck 0 0 k.card_diffs) (drop l.deck-index l.decks) ≡ map change_view l.initial.changes.items
    ++ flat_map (λ k. moves k.deck 0 0 k.card_diffs) l.decks
