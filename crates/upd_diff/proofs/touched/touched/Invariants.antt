use Rattle.upd_diff.proofs.Common.{◌≡◌, ◌++◌, map, drop, AllByRecursion, flat_map, AreApart, all_cards, key_of, deck_after, touched_in}
use Rattle.upd_diff.proofs.TouchedLemmas.{AreOf}
use Rattle.upd_diff.proofs.touched.touched.Given as goal

abbrev pub invariant-loop-deck : goal.invariant-loop-deck
invariant-loop-deck l =
    AreApart (map key_of (all_cards l.before)) → AllByRecursion (AreOf l.before l.rising) l.decks
    → AllByRecursion (AreOf l.before l.rising) (drop l.deck-index l.decks)
    × (l.found.items ++ flat_map (λ k. touched_in l.idents l.before (deck_after k)) (drop l.deck-index l.decks)
    ≡ flat_map (λ k. touched_in l.idents l.before (deck_after k)) l.decks)
