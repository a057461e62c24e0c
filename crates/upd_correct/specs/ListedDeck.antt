-- A deck that is known by its listing alone.
use Rattle.std.specs.Prelude.{ℕ, ◌+◌, length, nat_lt, Bool, true, false, not, ◌&&◌, if◌then◌else◌}
use Rattle.std.specs.Prelude.{List, [], ◌∷◌, codes, map, Option, Some, None, is_some, unwrap_or}
use Rattle.std.specs.List.{after_first, before_first, filter_map, list_any}
use Rattle.std.specs.Option.{option_and_then, option_map, option_map_or}
use Rattle.std.specs.Str.{bytes_eq}
use Rattle.upd_text.specs.declared.card_ref.CardRef.{CardRef}
use Rattle.upd_text.specs.declared.limits.TheConstants.{MAX_CARDS}
use Rattle.upd_text.specs.Lines.{is_blank}
use Rattle.upd_text.specs.Names.{card_of, is_name, yank_name}
use Rattle.upd_text.specs.Units.{Bytes}
use Rattle.upd_core.specs.declared.ident.Kind.TheVariants.{Deck, Set}
use Rattle.upd_core.specs.Edits.{entered, introduced, new_card, with_deck}
use Rattle.upd_core.specs.First.{index_from}
use Rattle.upd_core.specs.Library.{CardView, LibraryView, empty, held_named, ident_of}
use Rattle.upd_core.specs.Serials.{Serial}
use Rattle.upd_deck.specs.Reading.{is_feed}

-- A card as its line in a listing tells it.
pub record ListedView : Type 0 where
  pub active : Bool
  pub card : CardRef
  pub text : Bytes

-- ---- lines

-- a line without its LF; none where it has no LF
abbrev pub line_text : Bytes → Option Bytes
line_text line = if list_any is_feed line then Some (before_first is_feed line) else None

-- the bytes before the first blank and those behind it; none where there is no blank
abbrev pub cut_word : Bytes → Option (Bytes × Bytes)
cut_word text = if list_any is_blank text then Some (before_first is_blank text, after_first is_blank text) else None

-- the status that a word tells: A or I
abbrev pub status_read : Bytes → Option Bool
status_read word = if bytes_eq word (codes "A") then Some true else if bytes_eq word (codes "I") then Some false else None

-- the card of a line: its status, its reference and its text
abbrev pub listed_card : Bytes → Option ListedView
listed_card line =
    option_and_then (λ text. option_and_then (λ words. option_and_then (λ rest. option_and_then (λ active.
    option_map (λ card. record { active = active; card = card; text = rest.1 }) (card_of rest.0))
    (status_read words.0)) (cut_word words.1)) (cut_word text)) (line_text line)

-- a name that a deck can have
abbrev pub deck_name_read : Bytes → Option Bytes
deck_name_read text = if is_name text && not (bytes_eq text yank_name) then Some text else None

-- the name that follows COMDECK, and may be followed by NOPROP
abbrev pub common_name_read : Bytes → Option Bytes
common_name_read text =
    option_map_or (λ words. if bytes_eq words.1 (codes "NOPROP") then deck_name_read words.0 else None) (cut_word text) (deck_name_read text)

-- the name of the deck of a head line, behind the word for its kind
abbrev pub listed_name : Bytes → Option Bytes
listed_name line =
    option_and_then (λ text. option_and_then (λ words.
    if bytes_eq words.0 (codes "DECK")
    then deck_name_read words.1
    else if bytes_eq words.0 (codes "COMDECK") then common_name_read words.1 else None) (cut_word text)) (line_text line)

-- ---- the deck

-- the library with the ident of a card, as that of a set where no ident has its name
abbrev pub with_ident : ListedView → LibraryView → LibraryView
with_ident c l = if is_some (held_named c.card.name l.idents) then l else introduced c.card.name Set false l

-- the library with the idents of cards
abbrev pub with_idents : List ListedView → LibraryView → LibraryView
with_idents [] l = l
with_idents (c ∷ cards) l = with_idents cards (with_ident c l)

-- a card with the serial of its ident, which switched it off where it isn't active
abbrev pub aged_card : Serial → ListedView → CardView
aged_card age c =
    let card = new_card age c.card.number c.text [] in if c.active then card else entered (record { ident = age; active = false }) card

-- a listed card in a library that has its ident
abbrev pub card_listed : LibraryView → ListedView → CardView
card_listed l c = aged_card (unwrap_or (ident_of c.card.name l) 0) c

-- the library whose only deck has these cards, with serial 1
abbrev pub library_listed : Bytes → List ListedView → LibraryView
library_listed name cards =
    let l = with_idents cards (introduced name Deck false empty) in
    with_deck (record { ident = 1; cards = map (card_listed l) cards }) l

-- ---- listings

-- whether a line isn't that of a card
abbrev pub is_other : Bytes → Bool
is_other line = not (is_some (listed_card line))

-- the index of the first of some lines that isn't the line of a card, or of the first that is too much
abbrev pub bad_card : List Bytes → Option ℕ
bad_card lines = if nat_lt MAX_CARDS (length lines) then Some MAX_CARDS else index_from is_other 0 lines

-- the number of the first line that isn't one of a listing
abbrev pub bad_line : List Bytes → Option ℕ
bad_line [] = Some 1
bad_line (head ∷ lines) = if is_some (listed_name head) then option_map (λ i. i + 2) (bad_card lines) else Some 1

-- the name of the deck of a listing
abbrev pub name_listed : List Bytes → Bytes
name_listed [] = []
name_listed (head ∷ lines) = unwrap_or (listed_name head) []

-- the cards of a listing
abbrev pub cards_listed : List Bytes → List ListedView
cards_listed [] = []
cards_listed (head ∷ lines) = filter_map listed_card lines

-- the library that a listing stands for
abbrev pub library_of : List Bytes → LibraryView
library_of lines = library_listed (name_listed lines) (cards_listed lines)
