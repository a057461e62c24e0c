-- The library: a directory of idents, decks of cards, and the cards of `YANK$$$`.
use Rattle.std.specs.Prelude.{ℕ, ◌-◌, ◌==◌, Bool, true, false, ◌&&◌, if◌then◌else◌, List, [], ◌∷◌, slice_get, Option, Some, None, unwrap_or}
use Rattle.std.specs.Option.{option_map, option_and_then, option_map_or}
use Rattle.std.specs.Str.{bytes_eq}
use Rattle.std.specs.List.{find}
use Rattle.upd_core.specs.declared.card.Entry.{Entry}
use Rattle.upd_text.specs.declared.card_ref.CardRef.{CardRef}
use Rattle.upd_core.specs.declared.ident.Ident.{Ident}
use Rattle.upd_core.specs.declared.ident.Kind.{Kind}
use Rattle.upd_core.specs.declared.ident.Kind.TheVariants.{Set, Deck, Common}
use Rattle.upd_core.specs.declared.library.Place.{Place}
use Rattle.upd_core.specs.declared.library.Rest.{Rest}
use Rattle.upd_core.specs.declared.target.Target.{Target}
use Rattle.upd_core.specs.First.{index_from, at_first}
use Rattle.upd_text.specs.Units.{Bytes, Number}
use Rattle.upd_core.specs.Serials.{Serial}

-- A card: the serial of the ident that introduced it, its number within that ident, its text, the entries that switched it on and off (oldest
-- first), and what it takes out of use, if it is a yank card.
pub record CardView : Type 0 where
  pub ident : Serial
  pub number : Number
  pub text : Bytes
  pub history : List Entry
  pub targets : List Target

-- A deck: the serial of its own ident, and its cards in order.
pub record DeckView : Type 0 where
  pub ident : Serial
  pub cards : List CardView

-- A library: the idents ever introduced and the decks, in order of serial; the cards of `YANK$$$`; and the cards and entries of the decks
-- that aren't loaded.
pub record LibraryView : Type 0 where
  pub idents : List Ident
  pub decks : List DeckView
  pub yanks : List CardView
  pub rest : Rest

-- the empty library
abbrev pub empty : LibraryView
empty = record { idents = []; decks = []; yanks = []; rest = record { cards = 0; entries = 0 } }

-- all decks, with `YANK$$$` in front as a deck with serial 0
abbrev pub all_decks : LibraryView → List DeckView
all_decks l = record { ident = 0; cards = l.yanks } ∷ l.decks

-- the name of the ident with a serial, if there is one: serial n is at index n - 1 of the directory
abbrev pub name_at : List Ident → Serial → Option Bytes
name_at idents age = if age == 0 then None else option_map (λ i. i.name) (slice_get idents (age - 1))

-- the same, and no bytes where there is no such ident
abbrev pub name_of : List Ident → Serial → Bytes
name_of idents age = unwrap_or (name_at idents age) []

-- the reference by which directives name the card
abbrev pub ref_of : List Ident → CardView → CardRef
ref_of idents c = record { name = name_of idents c.ident; number = c.number }

-- whether a kind is that of a deck, common or not
abbrev pub is_deck_kind : Kind → Bool
is_deck_kind Set = false
is_deck_kind Deck = true
is_deck_kind Common = true

-- whether a kind is that of a common deck
abbrev pub is_common : Kind → Bool
is_common Set = false
is_common Deck = false
is_common Common = true

-- the held ident with a name
abbrev pub held_named : Bytes → List Ident → Option Ident
held_named name idents = find (λ i. i.held && bytes_eq i.name name) idents

-- its serial
abbrev pub ident_of : Bytes → LibraryView → Option Serial
ident_of name l = option_map (λ i. i.age) (held_named name l.idents)

-- the serial of the held deck with a name, common or not
abbrev pub deck_of : Bytes → LibraryView → Option Serial
deck_of name l = option_and_then (λ i. if is_deck_kind i.kind then Some i.age else None) (held_named name l.idents)

-- whether a card has an ident and a number
abbrev pub is_card : Serial → Number → CardView → Bool
is_card ident number c = (c.ident == ident) && (c.number == number)

-- whether a deck has a serial
abbrev pub is_deck : Serial → DeckView → Bool
is_deck age d = d.ident == age

-- the first place in these decks of the card with an ident and a number
abbrev pub place_in : List DeckView → Serial → Number → Option Place
place_in [] ident number = None
place_in (d ∷ ds) ident number = here_or (index_from (is_card ident number) 0 d.cards) (place_in ds ident number)
  where
    here_or : Option ℕ → Option Place → Option Place
    here_or (Some i) later = Some (record { deck = d.ident; index = i })
    here_or None later = later

-- the place of the card that a reference names
abbrev pub place_of : CardRef → LibraryView → Option Place
place_of card l = option_and_then (λ age. place_in (all_decks l) age card.number) (ident_of card.name l)

-- the cards of the deck with a serial
abbrev pub cards_of : Serial → LibraryView → List CardView
cards_of age l = option_map_or (λ d. d.cards) (find (is_deck age) (all_decks l)) []

-- the card at a place
abbrev pub card_in : Place → LibraryView → Option CardView
card_in place l = slice_get (cards_of place.deck l) place.index

-- the card that a reference names
abbrev pub card_named : CardRef → LibraryView → Option CardView
card_named card l = option_and_then (λ place. card_in place l) (place_of card l)

-- the library with the cards of one deck changed
abbrev pub with_cards : Serial → (List CardView → List CardView) → LibraryView → LibraryView
with_cards age change l =
    if age == 0
    then record l { yanks = change l.yanks }
    else record l { decks = at_first (is_deck age) (λ d. record d { cards = change d.cards }) l.decks }
