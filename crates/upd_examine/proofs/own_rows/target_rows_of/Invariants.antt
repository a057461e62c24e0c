use Rattle.upd_examine.proofs.Common.{◌≡◌, ◌++◌, drop, flat_map, ref_of, target_rows}
use Rattle.upd_examine.proofs.own_rows.target_rows_of.Given as goal

abbrev pub invariant-loop-deck : goal.invariant-loop-deck
invariant-loop-deck l =
    l.rows.items ++ flat_map (λ d. flat_map (λ c. target_rows (ref_of l.idents c) 0 c.targets) d.cards) (drop l.deck-index l.decks)
    ≡ flat_map (λ c. target_rows (ref_of l.idents c) 0 c.targets) l.yanks
    ++ flat_map (λ d. flat_map (λ c. target_rows (ref_of l.idents c) 0 c.targets) d.cards) l.decks
