-- What an ident did: the cards that it added, what it switched, and what yanks it.
use Rattle.std.specs.Prelude.{◌==◌, Bool, if◌then◌else◌, List, [], ◌∷◌, ◌++◌, codes, drop, length, Result, Ok}
use Rattle.std.specs.List.{filter, flat_map}
use Rattle.upd_text.specs.declared.fault.Fault.{Fault}
use Rattle.upd_text.specs.declared.fault.FaultKind.TheVariants.{IdentUnknown}
use Rattle.upd_text.specs.Outcome.{◌>>=◌, at_line, need}
use Rattle.upd_text.specs.Units.{Bytes}
use Rattle.upd_core.specs.declared.card.Entry.{Entry}
use Rattle.upd_core.specs.declared.ident.Ident.{Ident}
use Rattle.upd_core.specs.declared.target.Target.{Target}
use Rattle.upd_core.specs.declared.target.Target.TheVariants.{Set, SetIn, Deck}
use Rattle.upd_core.specs.Library.{CardView, DeckView, LibraryView, all_decks, held_named}
use Rattle.upd_core.specs.Serials.{Serial}
use Rattle.upd_core.specs.Status.{is_active, is_good, live_targets}
use Rattle.upd_compile.specs.Listings.{card_name, deck_name, kind_word, line_of, target_line, word_if}
use Rattle.upd_records.specs.Rows.{RunView}
use Rattle.upd_views.specs.IntroducingRun.{introducer_line}
use Rattle.upd_views.specs.Printed.{printed_text}

-- the head line: the ident's name, its kind and NOPROP
unfoldable pub ident_heading : Ident → Bytes
ident_heading i = line_of (codes "IDENT" ∷ i.name ∷ kind_word i.kind ∷ word_if i.noprop (codes "NOPROP"))

-- ---- what yanks it

-- whether a target takes an ident, everywhere or in one deck, or takes its deck
abbrev pub is_of : Serial → Target → Bool
is_of z (Set a) = a == z
is_of z (SetIn a d) = a == z
is_of z (Deck d) = d == z

-- the line of a target: its yank card, and what it takes
abbrev pub yanked_line : List Ident → CardView → Target → Bytes
yanked_line idents y t = codes "YANKED " ++ card_name idents y ++ target_line idents t

-- the lines of a yank card's targets that take an ident
abbrev pub yanked_lines : List Ident → Serial → CardView → Bytes
yanked_lines idents z y = flat_map (yanked_line idents y) (filter (is_of z) y.targets)

-- ---- what it did in a deck

-- the line of a card: a word, its reference and its text
abbrev pub card_line : Bytes → List Ident → CardView → Bytes
card_line word idents c = line_of (word ∷ card_name idents c ∷ printed_text c.text ∷ [])

-- a card that the ident added: whether it is active, as in the deck's listing, and one for each of its targets
abbrev pub added_lines : List Ident → List Target → Serial → Serial → CardView → Bytes
added_lines idents live z deck c =
    if c.ident == z then card_line (if is_active live deck c then codes "A" else codes "I") idents c ++ flat_map (target_line idents) c.targets else []

-- the line of an entry: on or off, and the card
abbrev pub switch_line : List Ident → CardView → Entry → Bytes
switch_line idents c e = card_line (if e.active then codes "on" else codes "off") idents c

-- the lines of the ident's entries of a card, after the entry that the card began with
abbrev pub switch_lines : List Ident → Serial → CardView → Bytes
switch_lines idents z c = flat_map (switch_line idents c) (filter (λ e. e.ident == z) (drop 1 c.history))

-- what the ident did with a card
abbrev pub card_part : List Ident → List Target → Serial → Serial → CardView → Bytes
card_part idents live z deck c = added_lines idents live z deck c ++ switch_lines idents z c

-- lines with their head line, or nothing where there are no lines
abbrev pub headed : Bytes → Bytes → Bytes
headed heading lines = if length lines == 0 then [] else heading ++ lines

-- what the ident did in a deck
abbrev pub deck_part : List Ident → List Target → Serial → DeckView → Bytes
deck_part idents live z d =
    headed (line_of (codes "DECK" ∷ deck_name idents d.ident ∷ [])) (flat_map (card_part idents live z d.ident) d.cards)

-- ---- all of it

-- the report of an ident
abbrev pub report : Ident → LibraryView → Bytes
report i l =
    ident_heading i ++ flat_map (yanked_lines l.idents i.age) (filter (is_good (live_targets l) 0) l.yanks)
    ++ flat_map (deck_part l.idents (live_targets l) i.age) (all_decks l)

-- the report of the held ident with a name, and the run that introduced it, of these stored runs
abbrev pub show : Bytes → List RunView → LibraryView → Result Bytes Fault
show name runs l = do
  i ← at_line 0 (need IdentUnknown (held_named name l.idents))
  Ok (report i l ++ introducer_line name runs l.idents)
