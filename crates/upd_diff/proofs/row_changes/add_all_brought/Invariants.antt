use Rattle.upd_diff.proofs.Common.{◌≡◌, ◌++◌, map, drop, flat_map, change_view, brought}
use Rattle.upd_diff.proofs.row_changes.add_all_brought.Given as goal

abbrev pub invariant-loop-deck : goal.invariant-loop-deck
invariant-loop-deck l =
    map change_view l.changes.items ++ flat_map (λ k. brought l.idents k.deck 0 k.card_diffs) (drop l.deck-index l.decks)
    ≡ map change_view l.initial.changes.items ++ flat_map (λ k. brought l.idents k.deck 0 k.card_diffs) l.decks
