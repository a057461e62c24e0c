-- The active cards after a run: by the cached statuses where a deck is loaded, as before where it isn't.
use Rattle.std.specs.Prelude.{◌≡◌, ◌==◌, Bool, ◌&&◌, if◌then◌else◌, List, [], ◌∷◌, map, Option, Some, None}
use Rattle.std.specs.List.{filter, find, flat_map, Contains}
use Rattle.std.specs.Option.{option_map}
use Rattle.upd_text.specs.declared.card_ref.CardRef.{CardRef}
use Rattle.upd_core.specs.Actives.{ActiveDeckView, ActivesView, active_deck, without_past}
use Rattle.upd_core.specs.Serials.{Serial}
use Rattle.upd_core.specs.Counted.{counted_card}
use Rattle.upd_core.specs.declared.ident.Ident.{Ident}
use Rattle.upd_core.specs.Library.{DeckView, LibraryView, is_deck, is_deck_kind}
use Rattle.upd_core.specs.Status.{live_targets}
use Rattle.upd_yank.specs.Right.{was_active}

-- the cards of a deck that are active by the cached statuses
abbrev pub deck_anew : List (CardRef × Bool) → List Ident → DeckView → ActiveDeckView
deck_anew states idents d = record {
  ident = d.ident;
  cards = map without_past (filter (λ c. was_active states (counted_card idents d.ident c)) d.cards);
}

-- whether a deck of active cards has a serial
abbrev pub is_active_deck : Serial → ActiveDeckView → Bool
is_active_deck age d = d.ident == age

-- the deck by the cached statuses, or else the deck before
abbrev pub anew_or_before : Option ActiveDeckView → Option ActiveDeckView → List ActiveDeckView
anew_or_before (Some anew) before = anew ∷ []
anew_or_before None (Some before) = before ∷ []
anew_or_before None None = []

-- the deck with a serial: by the cached statuses where it is loaded, else as before
abbrev pub deck_of_age : List (CardRef × Bool) → LibraryView → ActivesView → Serial → List ActiveDeckView
deck_of_age states part before age =
    anew_or_before (option_map (deck_anew states part.idents) (find (is_deck age) part.decks)) (find (is_active_deck age) before.decks)

-- the deck of an ident, if the ident is a held deck
abbrev pub deck_renewed : List (CardRef × Bool) → LibraryView → ActivesView → Ident → List ActiveDeckView
deck_renewed states part before i = if i.held && is_deck_kind i.kind then deck_of_age states part before i.age else []

-- the directory of a part, and each held deck in order of serial: by the cached statuses where it is loaded, else as before
abbrev pub renewed : List (CardRef × Bool) → LibraryView → ActivesView → ActivesView
renewed states part before = record { idents = part.idents; decks = flat_map (deck_renewed states part before) part.idents }

-- a deck that was there before a run, with the same active cards
abbrev pub IsAsBefore : LibraryView → LibraryView → DeckView → Type 0
IsAsBefore old new d = Contains old.decks d × (active_deck (live_targets old) d ≡ active_deck (live_targets new) d)
