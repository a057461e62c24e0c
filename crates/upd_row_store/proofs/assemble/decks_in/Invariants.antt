use Rattle.upd_row_store.proofs.Common.{◌≡◌, ◌++◌, decks_from, decks_in}
use Rattle.upd_row_store.proofs.assemble.decks_in.Given as goal

abbrev pub invariant-loop-row : goal.invariant-loop-row
invariant-loop-row l =
    l.decks.items ++ decks_from l.idents l.entries l.targets l.deck l.row-iterator.rest.items
    ≡ decks_in l.idents l.entries l.targets l.fn.cards.items
