use Rattle.upd_core.proofs.Common.{◌≡◌, map, take}
use Rattle.upd_core.specs.Actives.{active_deck}
use Rattle.upd_core.proofs.active_refs.active_decks.Given as goal

abbrev pub invariant-loop-deck : goal.invariant-loop-deck
invariant-loop-deck l = l.found.items ≡ map (active_deck l.live) (take l.deck-index l.decks)
