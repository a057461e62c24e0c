use Rattle.upd_core.proofs.Common.{◌≡◌, ◌++◌, map, drop, filter, flat_map, ref_of, covers}
use Rattle.upd_core.proofs.counted.add_covered_of_decks.Given as goal

abbrev pub invariant-loop-deck : goal.invariant-loop-deck
invariant-loop-deck l =
    l.found.items ++ flat_map (λ d. map (ref_of l.idents) (filter (λ c. covers d.ident c l.target) d.cards)) (drop l.deck-index l.decks)
    ≡ l.initial.found.items ++ flat_map (λ d. map (ref_of l.idents) (filter (λ c. covers d.ident c l.target) d.cards)) l.decks
