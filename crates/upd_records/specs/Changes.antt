-- The effect of row changes on the tables.
use Rattle.std.specs.Prelude.{ℕ, ◌+◌, ◌-◌, ◌==◌, nat_le, ℤ, pos, negsuc, Bool, false, not, ◌&&◌, if◌then◌else◌, List, [], ◌∷◌, ◌++◌, length, map}
use Rattle.std.specs.List.{filter}
use Rattle.upd_core.specs.declared.card.Entry.{Entry}
use Rattle.upd_text.specs.declared.card_ref.CardRef.{CardRef}
use Rattle.upd_core.specs.declared.ident.Ident.{Ident}
use Rattle.upd_core.specs.declared.target.Target.{Target}
use Rattle.upd_core.specs.Targets.{is_same}
use Rattle.upd_core.specs.declared.change.Change.{Change}
use Rattle.upd_core.specs.declared.change.Change.TheVariants as made
use Rattle.upd_records.specs.Rows.{CardRow, Rows, StateRow, same_ref, count_rows}

-- A row change. New cards, entries and targets have their positions; texts are bytes; cards move by a signed distance.
pub data ChangeView : Type 0 where
  IdentNew : Ident → ChangeView
  IdentPurged : ℕ → ChangeView
  CardNew : CardRef → ℕ → ℕ → List ℕ → ChangeView
  CardGone : CardRef → ChangeView
  CardsMoved : ℕ → ℕ → ℤ → ChangeView
  EntryNew : CardRef → ℕ → Entry → ChangeView
  EntriesGone : CardRef → ChangeView
  TargetNew : CardRef → ℕ → Target → ChangeView
  TargetsGone : CardRef → List Target → ChangeView
  StatusNow : CardRef → Bool → ChangeView
  CountNow : Target → ℕ → ChangeView

-- a change as clauses see it
abbrev pub change_view : Change → ChangeView
change_view (made.IdentNew ident) = IdentNew ident
change_view (made.IdentPurged age) = IdentPurged age
change_view (made.CardNew card deck place text) = CardNew card deck place text.items
change_view (made.CardGone card) = CardGone card
change_view (made.CardsMoved deck from by) = CardsMoved deck from by
change_view (made.EntryNew card ord entry) = EntryNew card ord entry
change_view (made.EntriesGone card) = EntriesGone card
change_view (made.TargetNew card ord target) = TargetNew card ord target
change_view (made.TargetsGone card targets) = TargetsGone card targets.items
change_view (made.StatusNow card active) = StatusNow card active
change_view (made.CountNow target n) = CountNow target n

-- the ident with a serial, no longer held
abbrev pub purged_row : ℕ → Ident → Ident
purged_row age i = if i.age == age then record i { held = false } else i

-- a position moved by a signed distance
abbrev pub shifted : ℤ → ℕ → ℕ
shifted (pos n) p = p + n
shifted (negsuc n) p = p - (n + 1)

-- the row of a card, moved where the card is in the deck at position `from` or later
abbrev pub moved_row : ℕ → ℕ → ℤ → CardRow → CardRow
moved_row deck from by r = if (r.deck == deck) && nat_le from r.pos then record r { pos = shifted by r.pos } else r

-- the row of a status, with another one where it is of a card
abbrev pub restated : CardRef → Bool → StateRow → StateRow
restated card active r = if same_ref card r.card then record r { active = active } else r

-- the rows of a card's status
abbrev pub status_rows : CardRef → List StateRow → List StateRow
status_rows card rows = filter (λ r. same_ref card r.card) rows

-- the rows of all statuses but a card's
abbrev pub other_statuses : CardRef → List StateRow → List StateRow
other_statuses card rows = filter (λ r. not (same_ref card r.card)) rows

-- A card has a status: the one row that it has keeps its place. Where it hasn't just one row, a new one at the end is all that it has.
abbrev pub with_status : CardRef → Bool → List StateRow → List StateRow
with_status card active rows =
    if length (status_rows card rows) == 1 then map (restated card active) rows else other_statuses card rows ++ record { card = card; active = active } ∷ []

-- the tables after one change; a status or a count replaces the one before it
abbrev pub done : ChangeView → Rows → Rows
done (IdentNew i) rows = record rows { idents = rows.idents ++ i ∷ [] }
done (IdentPurged age) rows = record rows { idents = map (purged_row age) rows.idents }
done (CardNew card deck place body) rows = record rows { cards = rows.cards ++ record { card = card; deck = deck; pos = place; body = body } ∷ [] }
done (CardGone card) rows = record rows {
  cards = filter (λ r. not (same_ref card r.card)) rows.cards;
  states = filter (λ r. not (same_ref card r.card)) rows.states;
}
done (CardsMoved deck from by) rows = record rows { cards = map (moved_row deck from by) rows.cards }
done (EntryNew card ord entry) rows = record rows { entries = rows.entries ++ record { card = card; ord = ord; entry = entry } ∷ [] }
done (EntriesGone card) rows = record rows { entries = filter (λ r. not (same_ref card r.card)) rows.entries }
done (TargetNew card ord target) rows = record rows { targets = rows.targets ++ record { card = card; ord = ord; target = target } ∷ [] }
done (TargetsGone card targets) rows = record rows { targets = filter (λ r. not (same_ref card r.card)) rows.targets }
done (StatusNow card active) rows = record rows { states = with_status card active rows.states }
done (CountNow target n) rows = record rows { counts = filter (λ r. not (is_same target r.target)) rows.counts ++ count_rows target n }

-- the tables after changes in order
abbrev pub done_all : List ChangeView → Rows → Rows
done_all [] rows = rows
done_all (c ∷ cs) rows = done_all cs (done c rows)
