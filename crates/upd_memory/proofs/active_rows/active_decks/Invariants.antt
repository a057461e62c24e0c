use Rattle.upd_memory.proofs.Common.{◌≡◌, ◌++◌, List, map, Ident, AreAgesOf, AreInOrder, shown_decks, state_row}
use Rattle.upd_memory.proofs.active_rows.active_decks.Given as goal

abbrev pub invariant-loop-age : goal.invariant-loop-age
invariant-loop-age l = record {
  pairs : l.statuses.pairs ≡ l.fn.statuses.pairs;
  decks : (idents : List Ident) → AreAgesOf idents l.ages → AreInOrder l.fn.statuses.pairs.now
      → l.found.items ++ shown_decks idents (map state_row l.fn.statuses.pairs.now) l.age-iterator
      ≡ shown_decks idents (map state_row l.fn.statuses.pairs.now) l.decks.entries;
}
