-- The active cards of a library: the input of a compile file.
use Rattle.std.specs.Prelude.{List, map}
use Rattle.std.specs.List.{filter}
use Rattle.upd_core.specs.declared.ident.Ident.{Ident}
use Rattle.upd_core.specs.declared.target.Target.{Target}
use Rattle.upd_core.specs.Library.{CardView, DeckView, LibraryView}
use Rattle.upd_core.specs.Status.{is_active, live_targets}
use Rattle.upd_text.specs.Units.{Bytes, Number}
use Rattle.upd_core.specs.Serials.{Serial}

-- A card without its history and targets.
pub record ActiveCardView : Type 0 where
  pub ident : Serial
  pub number : Number
  pub text : Bytes

-- The active cards of a deck in order.
pub record ActiveDeckView : Type 0 where
  pub ident : Serial
  pub cards : List ActiveCardView

-- The directory, and the active cards of each deck other than `YANK$$$`, in order of serial.
pub record ActivesView : Type 0 where
  pub idents : List Ident
  pub decks : List ActiveDeckView

-- a card without its history and targets
abbrev pub without_past : CardView → ActiveCardView
without_past c = record { ident = c.ident; number = c.number; text = c.text }

-- the active cards of a deck
abbrev pub active_deck : List Target → DeckView → ActiveDeckView
active_deck live d = record { ident = d.ident; cards = map without_past (filter (is_active live d.ident) d.cards) }

-- the active cards of a library
abbrev pub actives_of : LibraryView → ActivesView
actives_of l = record { idents = l.idents; decks = map (active_deck (live_targets l)) l.decks }
