use Rattle.upd_edit.proofs.Common.{◌≡◌, ◌++◌, drop, flat_map}
use Rattle.std.specs.List.{filter}
use Rattle.upd_core.specs.Status.{is_active}
use Rattle.upd_edit.specs.ActiveText.{card_line}
use Rattle.upd_edit.proofs.deck_text.push_active.Given as goal

abbrev pub invariant-loop-card : goal.invariant-loop-card
invariant-loop-card l =
    l.text.items ++ flat_map card_line (filter (is_active l.live.targets l.deck) (drop l.card-index l.cards))
    ≡ l.initial.text.items ++ flat_map card_line (filter (is_active l.live.targets l.deck) l.cards)
