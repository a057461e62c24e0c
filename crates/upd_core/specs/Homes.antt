-- Idents with cards in a deck other than their own. A look-up of a card of any other ident needs only one deck.
use Rattle.std.specs.Prelude.{◌≡◌, ◌==◌, Bool, true, ◌||◌, All, List, slice_index_or}
use Rattle.upd_core.specs.Serials.{Serial}
use Rattle.upd_core.specs.Library.{CardView, DeckView}

-- whether an ident may have cards in a deck other than its own; past the last flag it may
abbrev pub may_stray : List Bool → Serial → Bool
may_stray flags ident = slice_index_or flags ident true

-- whether a card is in the deck of its own ident, or its ident may stray
abbrev pub is_home : List Bool → Serial → CardView → Bool
is_home flags deck c = (c.ident == deck) || may_stray flags c.ident

-- each card of a deck is in the deck of its own ident, or its ident may stray
abbrev pub IsHome : List Bool → DeckView → Type 0
IsHome flags d = All (λ c. is_home flags d.ident c ≡ true) d.cards

-- the same of all decks
abbrev pub AreHome : List Bool → List DeckView → Type 0
AreHome flags decks = All (IsHome flags) decks

-- a flag that is set stays set
abbrev pub StayNoted : List Bool → List Bool → Type 0
StayNoted old new = (ident : Serial) → may_stray old ident ≡ true → may_stray new ident ≡ true
