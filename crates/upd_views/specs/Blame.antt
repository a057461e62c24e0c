-- Who switched the cards of a deck last: a line for each card.
use Rattle.std.specs.Prelude.{not, if◌then◌else◌, List, [], ◌∷◌, ◌++◌, codes, Result, Ok}
use Rattle.std.specs.List.{filter, flat_map}
use Rattle.upd_text.specs.declared.fault.Fault.{Fault}
use Rattle.upd_text.specs.declared.fault.FaultKind.TheVariants.{DeckUnknown}
use Rattle.upd_text.specs.Outcome.{◌>>=◌, at_line, need}
use Rattle.upd_text.specs.Units.{Bytes}
use Rattle.upd_core.specs.declared.card.Entry.{Entry}
use Rattle.upd_core.specs.declared.ident.Ident.{Ident}
use Rattle.upd_core.specs.declared.target.Target.{Target}
use Rattle.upd_core.specs.Library.{CardView, LibraryView, cards_of, deck_of, name_of}
use Rattle.upd_core.specs.Serials.{Serial}
use Rattle.upd_core.specs.Status.{is_active, is_taken, live_targets}
use Rattle.upd_compile.specs.File.{from_left}
use Rattle.upd_compile.specs.Listings.{card_name}
use Rattle.upd_views.specs.Printed.{printed_text}

-- the ident of the last entry, or a given one where there is no entry
abbrev pub last_ident : Serial → List Entry → Serial
last_ident z [] = z
last_ident z (e ∷ es) = last_ident e.ident es

-- who switched a card of a deck last: the ident of its last entry that isn't taken there, or else the card's own
abbrev pub switcher : List Target → Serial → CardView → Serial
switcher live deck c = last_ident c.ident (filter (λ e. not (is_taken live deck e.ident)) c.history)

-- the line of a card: whether it is active in 2 columns, its reference in 18, who switched it last in 12, and its text
abbrev pub blame_line : List Ident → List Target → Serial → CardView → Bytes
blame_line idents live deck c =
    from_left 2 (if is_active live deck c then codes "A" else codes "I") ++ from_left 18 (card_name idents c)
    ++ from_left 12 (name_of idents (switcher live deck c)) ++ printed_text c.text ++ 10 ∷ []

-- the lines of a deck's cards
abbrev pub blame_lines : Serial → LibraryView → Bytes
blame_lines deck l = flat_map (blame_line l.idents (live_targets l) deck) (cards_of deck l)

-- the lines of the held deck with a name
abbrev pub blame : Bytes → LibraryView → Result Bytes Fault
blame name l = do
  deck ← at_line 0 (need DeckUnknown (deck_of name l))
  Ok (blame_lines deck l)
