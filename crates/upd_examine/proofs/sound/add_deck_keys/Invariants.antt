use Rattle.upd_examine.proofs.Common.{◌≡◌, ◌++◌, map, drop, flat_map, key_of}
use Rattle.upd_examine.proofs.sound.add_deck_keys.Given as goal

abbrev pub invariant-loop-deck : goal.invariant-loop-deck
invariant-loop-deck l = l.keys.items ++ map key_of (flat_map (λ d. d.cards) (drop l.deck-index l.decks)) ≡ l.fn.keys.items
    ++ map key_of (flat_map (λ d. d.cards) l.decks)
