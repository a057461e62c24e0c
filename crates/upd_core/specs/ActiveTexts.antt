-- Active decks with one text buffer each; the text of a card is a range of it.
use Rattle.std.specs.Prelude.{◌≤◌, All, map, length, slice_range}
use Rattle.upd_core.specs.Actives.{ActiveCardView, ActiveDeckView}
use Rattle.upd_core.specs.declared.actives.Ranged.{Ranged}
use Rattle.upd_core.specs.declared.actives.ActiveDeck.TheInside.{Inside}
use Rattle.upd_text.specs.Units.{Bytes}

-- the card whose text is a range of these texts
abbrev pub card_in_texts : Bytes → Ranged → ActiveCardView
card_in_texts texts c = record { ident = c.ident; number = c.number; text = slice_range texts c.start c.end }

-- the deck that a buffer and its ranges show
abbrev pub deck_in_texts : Inside → ActiveDeckView
deck_in_texts d = record { ident = d.ident; cards = map (card_in_texts d.texts.items) d.cards.items }

-- the range of a card lies within texts
abbrev pub LiesIn : Bytes → Ranged → Type 0
LiesIn texts c = (c.start ≤ c.end) × (c.end ≤ length texts)

-- each card's range lies within the buffer
abbrev pub AreWithin : Inside → Type 0
AreWithin d = All (LiesIn d.texts.items) d.cards.items
