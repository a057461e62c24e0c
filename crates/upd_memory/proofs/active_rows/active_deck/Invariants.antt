use Rattle.upd_memory.proofs.Common.{◌≡◌, [], List, drop, map, Ident, AreAgesOf, AreInOrder, with_rows, state_row}
use Rattle.upd_memory.specs.ActiveRows.{IsAgeOf}
use Rattle.upd_memory.proofs.active_rows.active_deck.Given as goal

abbrev pub invariant-loop-row : goal.invariant-loop-row
invariant-loop-row l = record {
  known : IsAgeOf l.ages l.known.name l.known.age;
  pairs : l.statuses.pairs ≡ l.fn.statuses.pairs;
  deck : (idents : List Ident) → AreAgesOf idents l.ages → AreInOrder l.fn.statuses.pairs.now
      → with_rows idents (map state_row l.fn.statuses.pairs.now) l.deck (drop l.row-index l.rows)
      ≡ with_rows idents (map state_row l.fn.statuses.pairs.now) (record { ident = l.age; cards = [] }) l.rows;
}
