use Rattle.upd_core.proofs.Common.{◌≡◌, ◌++◌, map, drop, filter, ref_of, covers}
use Rattle.upd_core.proofs.counted.add_covered_of_deck.Given as goal

abbrev pub invariant-loop-card : goal.invariant-loop-card
invariant-loop-card l =
    l.found.items ++ map (ref_of l.idents) (filter (λ c. covers l.deck c l.target) (drop l.card-index l.cards))
    ≡ l.initial.found.items ++ map (ref_of l.idents) (filter (λ c. covers l.deck c l.target) l.cards)
