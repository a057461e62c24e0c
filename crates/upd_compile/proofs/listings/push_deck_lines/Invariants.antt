use Rattle.upd_compile.proofs.Common.{◌≡◌, ◌++◌, drop, flat_map}
use Rattle.upd_compile.specs.Listings.{deck_line}
use Rattle.upd_compile.proofs.listings.push_deck_lines.Given as goal

abbrev pub invariant-loop-card : goal.invariant-loop-card
invariant-loop-card l =
    l.text.items ++ flat_map (deck_line l.idents l.live.targets l.deck) (drop l.card-index l.cards)
    ≡ l.initial.text.items ++ flat_map (deck_line l.idents l.live.targets l.deck) l.cards
