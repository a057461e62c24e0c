use Rattle.upd_core.proofs.Common.{◌≡◌, map, take, drop, ◌++◌, deck_without, is_gone}
use Rattle.upd_core.proofs.gone.purge_each.Given as goal

abbrev pub invariant-loop-deck : goal.invariant-loop-deck
invariant-loop-deck l =
    l.decks ≡ map (deck_without (is_gone l.gone)) (take l.deck-index l.initial.decks) ++ drop l.deck-index l.initial.decks
