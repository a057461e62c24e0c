-- When what is in memory agrees with the tables of a store.
use Rattle.std.specs.Prelude.{◌≡◌, Bool, length, map, Option, Some, None}
use Rattle.upd_text.specs.declared.card_ref.CardRef.{CardRef}
use Rattle.upd_records.specs.Rows.{IsSame, Rows, StateRow}
use Rattle.upd_row_store.specs.Tables.{count_pair}
use Rattle.upd_memory.specs.RowsByKey.{AreCards, AreEntries, AreHomes, AreStatuses}
use Rattle.upd_memory.specs.declared.mirror.Mirror.{Mirror}

-- A mirror agrees with tables where it has the rows of the library, the statuses and the counts, as often, in whatever order.
pub record Agrees (m : Mirror) (rows : Rows) : Type 0 where
  pub idents : IsSame m.idents.items rows.idents
  pub cards : AreCards m.decks rows.cards
  pub homes : AreHomes m.homes rows.cards
  pub entries : AreEntries m.entries rows.entries
  pub entry_count : m.entry_count ≡ length rows.entries
  pub targets : IsSame m.targets.items rows.targets
  pub states : AreStatuses m.statuses rows.states
  pub counts : IsSame m.counts.items (map count_pair rows.counts)

-- the row of a card with its status
abbrev pub state_row : CardRef × Bool → StateRow
state_row p = record { card = p.0; active = p.1 }

-- where there is no mirror, nothing is claimed
abbrev pub AgreesIfAny : Option Mirror → Rows → Type 0
AgreesIfAny None rows = Unit {0}
AgreesIfAny (Some m) rows = Agrees m rows
