-- The active cards of a library out of rows.
use Rattle.std.specs.Prelude.{◌==◌, Bool, if◌then◌else◌, List, [], ◌∷◌, ◌++◌}
use Rattle.std.specs.List.{filter, list_any}
use Rattle.std.specs.List.Sorted.{IsSortedBy}
use Rattle.std.specs.Ordering.{is_lt}
use Rattle.upd_text.specs.Order.{card_order}
use Rattle.upd_text.specs.declared.card_ref.CardRef.{CardRef}
use Rattle.upd_core.specs.Actives.{ActiveCardView, ActiveDeckView, ActivesView}
use Rattle.upd_core.specs.declared.ident.Ident.{Ident}
use Rattle.upd_records.specs.Rows.{CardRow, StateRow, same_ref}
use Rattle.upd_row_store.specs.Assembling.{age_named}

-- statuses stand by card
abbrev pub AreStatesByCard : List StateRow → Type 0
AreStatesByCard rows = IsSortedBy (λ a b. is_lt (card_order a.card b.card)) rows

-- whether a card's row says that it is active
abbrev pub is_active_in : List StateRow → CardRef → Bool
is_active_in states card = list_any (λ r. r.active) (filter (λ r. same_ref card r.card) states)

module _ (idents : List Ident) (states : List StateRow) where
  -- the card of a row, without its past
  abbrev pub active_card : CardRow → ActiveCardView
  active_card r = record { ident = age_named idents r.card.name; number = r.card.number; text = r.body }

  -- a deck with the card of one more row, if it is active
  abbrev pub with_active : CardRow → ActiveDeckView → ActiveDeckView
  with_active r d = if is_active_in states r.card then record d { cards = d.cards ++ active_card r ∷ [] } else d

  -- the decks of rows, behind the first active cards of a deck: a card of another deck begins that deck
  abbrev pub actives_from : ActiveDeckView → List CardRow → List ActiveDeckView
  actives_from d [] = d ∷ []
  actives_from d (r ∷ rows) =
      if r.deck == d.ident
      then actives_from (with_active r d) rows
      else d ∷ actives_from (with_active r (record { ident = r.deck; cards = [] })) rows

  -- all decks of rows, the first of which is `YANK$$$`
  abbrev pub actives_in : List CardRow → List ActiveDeckView
  actives_in rows = actives_from (record { ident = 0; cards = [] }) rows

-- the active cards of a directory and decks, of which the first is `YANK$$$`
abbrev pub behind_yanks : List Ident → List ActiveDeckView → ActivesView
behind_yanks idents [] = record { idents = idents; decks = [] }
behind_yanks idents (yanks ∷ decks) = record { idents = idents; decks = decks }
