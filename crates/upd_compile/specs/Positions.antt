-- The look-ups of an index: idents by name, and decks by serial as positions in a list.
use Rattle.std.specs.Prelude.{ℕ, ◌==◌, if◌then◌else◌, List, Option, None}
use Rattle.std.specs.List.{filter_map}
use Rattle.std.specs.Option.{option_map, option_and_then}
use Rattle.upd_core.specs.declared.ident.Ident.{Ident}
use Rattle.upd_core.specs.declared.ident.Kind.{Kind}
use Rattle.upd_core.specs.Actives.{ActiveCardView, ActiveDeckView, ActivesView}
use Rattle.upd_core.specs.First.{index_from}
use Rattle.upd_core.specs.Library.{held_named, is_common}
use Rattle.upd_text.specs.Lines.{is_call, called}
use Rattle.upd_compile.specs.Walk.{text_cards}

-- the kind and the serial of an ident
abbrev pub kind_and_age : Ident → Kind × ℕ
kind_and_age i = (i.kind, i.age)

-- the kind and the serial of the held ident with a name
abbrev pub held_kind : List ℕ → List Ident → Option (Kind × ℕ)
held_kind name idents = option_map kind_and_age (held_named name idents)

-- the position of the deck with a serial
abbrev pub position_aged : ℕ → List ActiveDeckView → Option ℕ
position_aged age decks = index_from (λ d. d.ident == age) 0 decks

-- the position of the held common deck with a name
abbrev pub position_named : List ℕ → ActivesView → Option ℕ
position_named name a = option_and_then (λ i. if is_common i.0 then position_aged i.1 a.decks else None) (held_kind name a.idents)

-- the position of the held common deck that a card calls
abbrev pub called_position : ActivesView → ActiveCardView → Option ℕ
called_position a c = if is_call c.text then position_named (called c.text) a else None

-- the positions of the held common decks that a deck's active cards call
abbrev pub called_positions : ActivesView → ActiveDeckView → List ℕ
called_positions a d = filter_map (called_position a) (text_cards d)
