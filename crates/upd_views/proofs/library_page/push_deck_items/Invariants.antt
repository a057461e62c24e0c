use Rattle.std.proofs.Common.{◌≡◌, ◌++◌, drop}
use Rattle.std.specs.List.{flat_map}
use Rattle.upd_views.specs.LibraryPage.{deck_item}
use Rattle.upd_views.proofs.library_page.push_deck_items.Given as goal

abbrev pub invariant-loop-deck : goal.invariant-loop-deck
invariant-loop-deck l =
    l.html.items ++ flat_map (deck_item l.idents l.live.targets) (drop l.deck-index l.decks)
    ≡ l.initial.html.items ++ flat_map (deck_item l.idents l.live.targets) l.decks
