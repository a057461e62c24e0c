use Rattle.upd_row_store.proofs.Common.{◌≡◌, ◌++◌, drop, actives_from, actives_in}
use Rattle.upd_row_store.proofs.active.active_decks.Given as goal

abbrev pub invariant-loop-row : goal.invariant-loop-row
invariant-loop-row l =
    l.decks.items ++ actives_from l.idents l.states l.deck (drop l.row-index l.cards) ≡ actives_in l.idents l.states l.cards
