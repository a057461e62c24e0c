-- The warnings of a yank or purge that is tried: what younger idents have made of its cards, and which decks stay.
use Rattle.std.specs.Prelude.{ℕ, ◌-◌, nat_lt, Bool, false, not, ◌&&◌, if◌then◌else◌, List, ◌++◌, drop, slice_get, Option, Some, None}
use Rattle.std.specs.Prelude.{is_some}
use Rattle.std.specs.List.{filter_map, find, flat_map, list_any, zip}
use Rattle.std.specs.Option.{option_and_then, option_map, option_map_or}
use Rattle.upd_core.specs.declared.card.Entry.{Entry}
use Rattle.upd_core.specs.declared.ident.Ident.{Ident}
use Rattle.upd_core.specs.declared.target.Target.{Target}
use Rattle.upd_core.specs.Library.{CardView, DeckView, LibraryView, ident_of, is_deck_kind, name_of, ref_of}
use Rattle.upd_core.specs.Serials.{Serial}
use Rattle.upd_core.specs.Status.{is_taken, live_targets}
use Rattle.upd_apply.specs.Names.{Ages, is_in}
use Rattle.upd_deck.specs.declared.item.NameRange.{NameRange}
use Rattle.upd_edit.specs.declared.warning.TakingWord.{TakingWord}
use Rattle.upd_edit.specs.declared.warning.Warning.{Warning}
use Rattle.upd_edit.specs.declared.warning.WarningKind.{WarningKind}
use Rattle.upd_edit.specs.declared.warning.WarningKind.TheVariants.{DeckStays, TakesFollowed, TakesSwitched}
use Rattle.upd_edit.specs.Found.{found}

-- ---- the idents that go

-- the serials of a range of names; none where one of the names isn't held
abbrev pub serials_of : LibraryView → NameRange → Option Ages
serials_of l range =
    option_and_then (λ a. option_map (λ b. record { from = a; to = b }) (ident_of range.last l)) (ident_of range.first l)

-- whether an ident goes
abbrev pub goes : List Ages → Serial → Bool
goes ranges z = list_any (λ r. is_in r z) ranges

-- whether an ident that is younger than another stays in a deck: it doesn't go, and it isn't taken there
abbrev pub stays : List Target → Serial → List Ages → Serial → Serial → Bool
stays live deck ranges z y = nat_lt z y && (not (goes ranges y) && not (is_taken live deck y))

-- ---- cards that younger idents have switched

-- the first entry of a younger ident that stays
abbrev pub younger_entry : List Target → Serial → List Ages → CardView → Option Entry
younger_entry live deck ranges c = find (λ e. stays live deck ranges c.ident e.ident) c.history

-- whether a card goes that a younger ident has switched
abbrev pub is_switched : List Target → Serial → List Ages → CardView → Bool
is_switched live deck ranges c = goes ranges c.ident && is_some (younger_entry live deck ranges c)

-- the warning of a card that goes, by an entry
abbrev pub entry_kind : TakingWord → LibraryView → CardView → Entry → WarningKind
entry_kind word l c e = TakesSwitched word (ref_of l.idents c) (name_of l.idents e.ident)

-- the warning of the first card of a deck that goes and that a younger ident has switched
abbrev pub switched_kind : TakingWord → LibraryView → List Ages → DeckView → Option WarningKind
switched_kind word l ranges d =
    option_and_then (λ c. option_map (entry_kind word l c) (younger_entry (live_targets l) d.ident ranges c))
    (find (is_switched (live_targets l) d.ident ranges) d.cards)

-- ---- cards that younger idents have put behind them

-- whether of two neighbours the first goes, and the second is of a younger ident that stays
abbrev pub is_followed : List Target → Serial → List Ages → CardView × CardView → Bool
is_followed live deck ranges p = goes ranges p.0.ident && stays live deck ranges p.0.ident p.1.ident

-- the warning of two neighbours
abbrev pub neighbours_kind : TakingWord → LibraryView → CardView × CardView → WarningKind
neighbours_kind word l p = TakesFollowed word (ref_of l.idents p.0) (ref_of l.idents p.1)

-- the warning of the first such neighbours of a deck
abbrev pub followed_kind : TakingWord → LibraryView → List Ages → DeckView → Option WarningKind
followed_kind word l ranges d = option_map (neighbours_kind word l) (find (is_followed (live_targets l) d.ident ranges) (zip d.cards (drop 1 d.cards)))

-- ---- decks that stay

-- whether the ident with a serial is a set
abbrev pub is_set : List Ident → Serial → Bool
is_set idents z = option_map_or (λ i. not (is_deck_kind i.kind)) (slice_get idents (z - 1)) false

-- the deck that came right after the last ident of a range, if that is a set and the deck doesn't go
abbrev pub deck_after : LibraryView → List Ages → Ages → Option Ident
deck_after l ranges r =
    if is_set l.idents r.to
    then option_and_then (λ i. if i.held && (is_deck_kind i.kind && not (goes ranges i.age)) then Some i else None) (slice_get l.idents r.to)
    else None

-- the warning of the deck that came right after the last ident of a range, and stays
abbrev pub deck_kind : TakingWord → LibraryView → List Ages → Ages → Option WarningKind
deck_kind word l ranges r = option_map (λ i. DeckStays word (name_of l.idents r.to) i.name false) (deck_after l ranges r)

-- the same at a line
abbrev pub deck_warning : ℕ → TakingWord → LibraryView → List Ages → Ages → List Warning
deck_warning line word l ranges r = found line (deck_kind word l ranges r)

-- the warnings of a deck
abbrev pub deck_warnings : ℕ → TakingWord → LibraryView → List Ages → DeckView → List Warning
deck_warnings line word l ranges d = found line (switched_kind word l ranges d) ++ found line (followed_kind word l ranges d)

-- the warnings of a yank or purge of idents
abbrev pub ranges_warnings : ℕ → TakingWord → LibraryView → List Ages → List Warning
ranges_warnings line word l ranges =
    flat_map (deck_warning line word l ranges) ranges ++ flat_map (deck_warnings line word l ranges) l.decks

-- the same of what ranges of names name
abbrev pub taking_warnings : ℕ → TakingWord → LibraryView → List NameRange → List Warning
taking_warnings line word l names = ranges_warnings line word l (filter_map (serials_of l) names)
