-- Which decks hold cards that a store is asked for.
use Rattle.std.specs.Prelude.{◌≡◌, ℕ, ◌==◌, Bool, false, ◌&&◌, List, [], ◌∷◌, map, Option}
use Rattle.std.specs.List.{filter, list_any}
use Rattle.std.specs.Option.{option_and_then, option_map, option_to_list}
use Rattle.upd_text.specs.declared.card_ref.CardRef.{CardRef}
use Rattle.upd_core.specs.Edits.{is_among}
use Rattle.upd_core.specs.declared.ident.Ident.{Ident}
use Rattle.upd_core.specs.Library.{CardView, DeckView, LibraryView, card_in, deck_of, place_of, ref_of}
use Rattle.upd_records.specs.Rows.{CardRow, same_ref}
use Rattle.upd_row_store.specs.declared.asked.DeckOf.{DeckOf}
use Rattle.upd_row_store.specs.declared.asked.DeckOf.TheVariants.{Named, Holding}
use Rattle.upd_row_store.specs.declared.asked.Homes.{Homes}

-- whether a card is one of those that are asked for
abbrev pub is_asked : List CardRef → CardRef → Bool
is_asked cards card = list_any (λ c. same_ref c card) cards

-- whether a deck holds one of them
abbrev pub holds_one : List CardRef → List Ident → DeckView → Bool
holds_one cards idents d = list_any (λ c. is_asked cards (ref_of idents c)) d.cards

-- the ages of the decks other than `YANK$$$` that hold one of them, by age, each once
abbrev pub decks_with : List CardRef → LibraryView → List ℕ
decks_with cards l = map (λ d. d.ident) (filter (holds_one cards l.idents) l.decks)

-- whether `YANK$$$` holds one of them
abbrev pub are_in_yanks : List CardRef → LibraryView → Bool
are_in_yanks cards l = list_any (λ c. is_asked cards (ref_of l.idents c)) l.yanks

-- The homes of cards: the decks that hold one of them, and whether one may be in `YANK$$$`: where none may be, none is.
pub record AreHomes (cards : List CardRef) (l : LibraryView) (homes : Homes) : Type 0 where
  pub decks : homes.decks.items ≡ decks_with cards l
  pub yanks : homes.may_be_yanks ≡ false → are_in_yanks cards l ≡ false

-- the age of the deck that is asked for, where there is one: the held deck of a name, or the deck that holds a card
abbrev pub ages_asked : DeckOf → LibraryView → List ℕ
ages_asked (Named name) l = option_to_list (deck_of name l)
ages_asked (Holding card) l = decks_with (card ∷ []) l

-- These ages, in whatever order, are those of the decks in the rows of the cards that are asked for, 0 for `YANK$$$` among them.
abbrev pub AreDecksOf : List CardRef → List CardRow → List ℕ → Type 0
AreDecksOf cards rows ages = (d : ℕ) → is_among ages d ≡ list_any (λ r. (r.deck == d) && is_asked cards r.card) rows

-- the card that a reference names, with the serial of its deck
abbrev pub placed_card : CardRef → LibraryView → Option (ℕ × CardView)
placed_card card l = option_and_then (λ p. option_map (λ c. (p.deck, c)) (card_in p l)) (place_of card l)

-- A library that shows a card as another does: with the same idents and the same `YANK$$$`, in the same deck.
pub record ShowsCard (card : CardRef) (l found : LibraryView) : Type 0 where
  pub idents : found.idents ≡ l.idents
  pub yanks : found.yanks ≡ l.yanks
  pub same : placed_card card found ≡ placed_card card l
