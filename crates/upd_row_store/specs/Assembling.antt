-- A library out of its rows.
use Rattle.std.specs.Prelude.{◌≡◌, ℕ, ◌==◌, if◌then◌else◌, List, [], ◌∷◌, ◌++◌, map}
use Rattle.std.specs.Ordering.{is_lt, nat_cmp, ordering_then}
use Rattle.std.specs.BTreeMap.{BTreeMap, get}
use Rattle.std.specs.Cmp.Lexicographic.{slice_cmp}
use Rattle.std.specs.Option.{option_map, option_map_or}
use Rattle.std.specs.List.{filter}
use Rattle.std.specs.List.Sorted.{IsSortedBy}
use Rattle.upd_text.specs.Order.{card_order}
use Rattle.upd_text.specs.Units.{Bytes}
use Rattle.upd_text.specs.declared.card_ref.CardRef.{CardRef}
use Rattle.upd_core.specs.declared.card.Entry.{Entry}
use Rattle.upd_core.specs.declared.ident.Ident.{Ident}
use Rattle.upd_core.specs.declared.target.Target.{Target}
use Rattle.upd_core.specs.Library.{CardView, DeckView, LibraryView, empty, held_named}
use Rattle.upd_records.specs.Rows.{CardRow, EntryRow, IsSame, Rows, TargetRow, same_ref}
use Rattle.upd_records.specs.declared.rows.LibraryRows.{LibraryRows}

-- The rows of tables, as often, in whatever order.
pub record AreRowsOf (tables : Rows) (rows : LibraryRows) : Type 0 where
  pub idents : IsSame rows.idents.items tables.idents
  pub cards : IsSame rows.cards.items tables.cards
  pub entries : IsSame rows.entries.items tables.entries
  pub targets : IsSame rows.targets.items tables.targets

-- idents stand by age
abbrev pub AreByAge : List Ident → Type 0
AreByAge idents = IsSortedBy (λ a b. is_lt (nat_cmp a.age b.age)) idents

-- cards stand by deck, then by their place in it
abbrev pub AreByPlace : List CardRow → Type 0
AreByPlace rows = IsSortedBy (λ a b. is_lt (ordering_then (nat_cmp a.deck b.deck) (nat_cmp a.pos b.pos))) rows

-- entries stand by card, then by their place in its history
abbrev pub AreEntriesByCard : List EntryRow → Type 0
AreEntriesByCard rows = IsSortedBy (λ a b. is_lt (ordering_then (card_order a.card b.card) (nat_cmp a.ord b.ord))) rows

-- and targets by their place among those of the card
abbrev pub AreTargetsByCard : List TargetRow → Type 0
AreTargetsByCard rows = IsSortedBy (λ a b. is_lt (ordering_then (card_order a.card b.card) (nat_cmp a.ord b.ord))) rows

-- the serial of the held ident of a name, 0 where no ident has it
abbrev pub age_named : List Ident → Bytes → ℕ
age_named idents name = option_map_or (λ i. i.age) (held_named name idents) 0

-- a map has the ages of the held idents by their names
abbrev pub AreAgesOf : List Ident → BTreeMap Bytes ℕ → Type 0
AreAgesOf idents ages = (name : Bytes) → get (slice_cmp nat_cmp) ages name ≡ option_map (λ i. i.age) (held_named name idents)

-- the entries of a card
abbrev pub entries_of : CardRef → List EntryRow → List Entry
entries_of card rows = map (λ r. r.entry) (filter (λ r. same_ref card r.card) rows)

-- the targets of a card
abbrev pub targets_of : CardRef → List TargetRow → List Target
targets_of card rows = map (λ r. r.target) (filter (λ r. same_ref card r.card) rows)

module _ (idents : List Ident) (entries : List EntryRow) (targets : List TargetRow) where
  -- the card of a row
  abbrev pub card_of_row : CardRow → CardView
  card_of_row r = record {
    ident = age_named idents r.card.name;
    number = r.card.number;
    text = r.body;
    history = entries_of r.card entries;
    targets = targets_of r.card targets;
  }

  -- the decks of rows, behind the first cards of a deck: a card of another deck begins that deck
  abbrev pub decks_from : DeckView → List CardRow → List DeckView
  decks_from deck [] = deck ∷ []
  decks_from deck (r ∷ rows) =
      if r.deck == deck.ident
      then decks_from (record deck { cards = deck.cards ++ card_of_row r ∷ [] }) rows
      else deck ∷ decks_from (record { ident = r.deck; cards = card_of_row r ∷ [] }) rows

  -- all decks of rows, the first of which is `YANK$$$`
  abbrev pub decks_in : List CardRow → List DeckView
  decks_in rows = decks_from (record { ident = 0; cards = [] }) rows

-- the library of a directory and decks, of which the first is `YANK$$$`
abbrev pub library_of : List Ident → List DeckView → LibraryView
library_of idents [] = record { idents = idents; decks = []; yanks = []; rest = empty.rest }
library_of idents (yanks ∷ decks) = record { idents = idents; decks = decks; yanks = yanks.cards; rest = empty.rest }
