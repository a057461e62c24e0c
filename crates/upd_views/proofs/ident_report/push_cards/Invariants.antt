use Rattle.std.proofs.Common.{◌≡◌, ◌++◌, drop}
use Rattle.std.specs.List.{flat_map}
use Rattle.upd_views.specs.IdentReport.{card_part}
use Rattle.upd_views.proofs.ident_report.push_cards.Given as goal

abbrev pub invariant-loop-card : goal.invariant-loop-card
invariant-loop-card l =
    l.text.items ++ flat_map (card_part l.idents l.live.targets l.ident l.deck) (drop l.card-index l.cards)
    ≡ l.initial.text.items ++ flat_map (card_part l.idents l.live.targets l.ident l.deck) l.cards
