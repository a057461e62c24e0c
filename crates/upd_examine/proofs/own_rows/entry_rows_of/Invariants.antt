use Rattle.upd_examine.proofs.Common.{◌≡◌, ◌++◌, drop, flat_map, ref_of, entry_rows}
use Rattle.upd_examine.proofs.own_rows.entry_rows_of.Given as goal

abbrev pub invariant-loop-deck : goal.invariant-loop-deck
invariant-loop-deck l =
    l.rows.items ++ flat_map (λ d. flat_map (λ c. entry_rows (ref_of l.idents c) 0 c.history) d.cards) (drop l.deck-index l.decks)
    ≡ flat_map (λ c. entry_rows (ref_of l.idents c) 0 c.history) l.yanks
    ++ flat_map (λ d. flat_map (λ c. entry_rows (ref_of l.idents c) 0 c.history) d.cards) l.decks
