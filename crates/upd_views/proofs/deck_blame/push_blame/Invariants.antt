use Rattle.std.proofs.Common.{◌≡◌, ◌++◌, drop}
use Rattle.std.specs.List.{flat_map}
use Rattle.upd_views.specs.Blame.{blame_line}
use Rattle.upd_views.proofs.deck_blame.push_blame.Given as goal

abbrev pub invariant-loop-card : goal.invariant-loop-card
invariant-loop-card l =
    l.text.items ++ flat_map (blame_line l.idents l.live.targets l.deck) (drop l.card-index l.cards)
    ≡ l.initial.text.items ++ flat_map (blame_line l.idents l.live.targets l.deck) l.cards
