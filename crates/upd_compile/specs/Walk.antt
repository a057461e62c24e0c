-- The walk through a deck and the common decks that it calls, fully expanded.
use Rattle.std.specs.Prelude.{ℕ, zero, suc, ◌==◌, not, ◌&&◌, if◌then◌else◌, List, [], ◌∷◌, Option, Some, None}
use Rattle.std.specs.Option.{option_and_then}
use Rattle.std.specs.List.{filter, find, flat_map}
use Rattle.upd_core.specs.Actives.{ActiveCardView, ActiveDeckView, ActivesView}
use Rattle.upd_core.specs.Library.{is_common, held_named}
use Rattle.upd_text.specs.Lines.{is_call, called}

-- An event of a walk: a line, a call that is followed, a call too deep, or a call whose name is not a held common deck.
pub data WalkEvent : Type 0 where
  Line : ActiveCardView → WalkEvent
  Follow : WalkEvent
  Depth : WalkEvent
  Unknown : WalkEvent

-- the deck with a serial
abbrev pub deck_aged : ℕ → ActivesView → Option ActiveDeckView
deck_aged age a = find (λ d. d.ident == age) a.decks

-- the held common deck with a name
abbrev pub common_named : List ℕ → ActivesView → Option ActiveDeckView
common_named name a = option_and_then (λ i. if is_common i.kind then deck_aged i.age a else None) (held_named name a.idents)

-- the active cards of a deck without its first card
abbrev pub text_cards : ActiveDeckView → List ActiveCardView
text_cards d = filter (λ c. not ((c.ident == d.ident) && (c.number == 1))) d.cards

-- the events of a call: the call is followed, then come the events of its deck's text cards
abbrev pub call_events : (ActiveCardView → List WalkEvent) → Option ActiveDeckView → List WalkEvent
call_events given None = Unknown ∷ []
call_events given (Some d) = Follow ∷ flat_map given (text_cards d)

-- the events of a card, where calls are followed to a number of levels
abbrev pub card_events : ℕ → ActivesView → ActiveCardView → List WalkEvent
card_events zero a c = if is_call c.text then Depth ∷ [] else Line c ∷ []
card_events (suc levels) a c = if is_call c.text then call_events (card_events levels a) (common_named (called c.text) a) else Line c ∷ []

-- the walk through a deck: the events of its text cards, in order
abbrev pub walk : ℕ → ActivesView → ActiveDeckView → List WalkEvent
walk levels a d = flat_map (card_events levels a) (text_cards d)
