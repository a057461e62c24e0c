use Rattle.upd_core.proofs.Common.{◌≡◌, map, take, filter, is_active}
use Rattle.upd_core.specs.Actives.{without_past}
use Rattle.upd_core.proofs.active_refs.active_cards.Given as goal

abbrev pub invariant-loop-card : goal.invariant-loop-card
invariant-loop-card l =
    l.found.items ≡ map without_past (filter (is_active l.live l.deck) (take l.card-index l.cards))
