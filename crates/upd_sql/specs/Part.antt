-- Rows that are read of some tables.
use Rattle.upd_records.specs.Rows.{IsSame, Rows}
use Rattle.upd_sql.specs.declared.whole.ActiveRows.{ActiveRows}

-- What is read of tables for the active cards: all idents, cards and statuses.
pub record AreActiveRows (tables : Rows) (found : ActiveRows) : Type 0 where
  pub idents : IsSame found.idents.items tables.idents
  pub cards : IsSame found.cards.items tables.cards
  pub states : IsSame found.states.items tables.states
