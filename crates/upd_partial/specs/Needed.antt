-- The decks that a run needs of a library.
use Rattle.std.specs.Prelude.{◌≡◌, ◌==◌, Bool, false, not, ◌&&◌, if◌then◌else◌, List, map}
use Rattle.std.specs.List.{flat_map, list_any}
use Rattle.std.specs.Option.{option_map_or}
use Rattle.upd_text.specs.declared.card_ref.CardRef.{CardRef}
use Rattle.upd_core.specs.Serials.{Serial}
use Rattle.upd_core.specs.Library.{LibraryView, place_of}
use Rattle.upd_deck.specs.Items.{LineView}
use Rattle.upd_row_store.specs.Asked.{decks_with}
use Rattle.upd_partial.specs.Needless.{is_plain, cards_of_item}

-- the cards that the lines of a run name, in order
abbrev pub cards_named : List LineView → List CardRef
cards_named lines = flat_map (λ line. cards_of_item line.item) lines

-- two lists have the same cards, whatever their order and however often: some card of the one passes a test where some of the other does
abbrev pub AreAlike : List CardRef → List CardRef → Type 0
AreAlike cards others = (test : CardRef → Bool) → list_any test cards ≡ list_any test others

-- whether a reference names a yank card
abbrev pub is_yank_card : LibraryView → CardRef → Bool
is_yank_card l card = option_map_or (λ p. p.deck == 0) (place_of card l) false

-- A run needs all decks where it yanks, purges or names a yank card; otherwise those that have a card which it names. `YANK$$$` is not counted.
abbrev pub decks_needed : List LineView → LibraryView → List Serial
decks_needed lines l =
    if is_plain lines && not (list_any (is_yank_card l) (cards_named lines)) then decks_with (cards_named lines) l else map (λ d. d.ident) l.decks
