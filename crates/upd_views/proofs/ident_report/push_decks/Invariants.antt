use Rattle.std.proofs.Common.{◌≡◌, ◌++◌, drop}
use Rattle.std.specs.List.{flat_map}
use Rattle.upd_views.specs.IdentReport.{deck_part}
use Rattle.upd_views.proofs.ident_report.push_decks.Given as goal

abbrev pub invariant-loop-deck : goal.invariant-loop-deck
invariant-loop-deck l =
    l.text.items ++ flat_map (deck_part l.idents l.live.targets l.ident) (drop l.deck-index l.decks)
    ≡ l.initial.text.items ++ flat_map (deck_part l.idents l.live.targets l.ident) l.decks
