-- The text of a deck: its active cards, a line each.
use Rattle.std.specs.Prelude.{◌∷◌, ◌++◌, [], Result, Ok}
use Rattle.std.specs.List.{flat_map}
use Rattle.upd_text.specs.declared.fault.Fault.{Fault}
use Rattle.upd_text.specs.declared.fault.FaultKind.TheVariants.{DeckUnknown}
use Rattle.upd_text.specs.Outcome.{◌>>=◌, at_line, need}
use Rattle.upd_text.specs.Units.{Bytes}
use Rattle.upd_core.specs.Library.{CardView, LibraryView, deck_of}
use Rattle.upd_core.specs.Serials.{Serial}
use Rattle.upd_correct.specs.Corrected.{active_cards}

-- the text of a card as a line
abbrev pub card_line : CardView → Bytes
card_line card = card.text ++ 10 ∷ []

-- the text of a deck by its serial
abbrev pub lines_of_deck : Serial → LibraryView → Bytes
lines_of_deck deck l = flat_map card_line (active_cards deck l)

-- the text of the held deck with a name
abbrev pub active_text : Bytes → LibraryView → Result Bytes Fault
active_text name l = do
  deck ← at_line 0 (need DeckUnknown (deck_of name l))
  Ok (lines_of_deck deck l)
