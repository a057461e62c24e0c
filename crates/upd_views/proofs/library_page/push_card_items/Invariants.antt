use Rattle.std.proofs.Common.{◌≡◌, ◌++◌, drop}
use Rattle.std.specs.List.{flat_map}
use Rattle.upd_views.specs.LibraryPage.{card_item}
use Rattle.upd_views.proofs.library_page.push_card_items.Given as goal

abbrev pub invariant-loop-card : goal.invariant-loop-card
invariant-loop-card l =
    l.html.items ++ flat_map (card_item l.idents l.live.targets l.deck) (drop l.card-index l.cards)
    ≡ l.initial.html.items ++ flat_map (card_item l.idents l.live.targets l.deck) l.cards
