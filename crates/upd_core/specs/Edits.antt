-- The edits of a library: each change that a line can make.
use Rattle.std.specs.Prelude.{ℕ, ◌+◌, ◌-◌, ◌==◌, nat_le, Bool, true, not, ◌&&◌, List, [], ◌∷◌, ◌++◌, map, length, take, drop, insert}
use Rattle.std.specs.List.{list_any, filter}
use Rattle.upd_core.specs.declared.card.Entry.{Entry}
use Rattle.upd_core.specs.declared.ident.Ident.{Ident}
use Rattle.upd_core.specs.declared.ident.Kind.{Kind}
use Rattle.upd_core.specs.declared.target.Target.{Target}
use Rattle.upd_core.specs.Library.{CardView, DeckView, LibraryView, with_cards}
use Rattle.upd_text.specs.Units.{Bytes, Number}
use Rattle.upd_core.specs.Serials.{Serial}

-- the serial of the next ident
abbrev pub next_age : LibraryView → Serial
next_age l = length l.idents + 1

-- a new ident at the end of the directory
abbrev pub introduced : Bytes → Kind → Bool → LibraryView → LibraryView
introduced name kind noprop l =
    record l { idents = l.idents ++ record { name = name; age = next_age l; kind = kind; noprop = noprop; held = true } ∷ [] }

-- a new card, whose history is one entry: its own ident, on
abbrev pub new_card : Serial → Number → Bytes → List Target → CardView
new_card ident number text targets =
    record { ident = ident; number = number; text = text; history = record { ident = ident; active = true } ∷ []; targets = targets }

-- a new deck at the end of the library
abbrev pub with_deck : DeckView → LibraryView → LibraryView
with_deck d l = record l { decks = l.decks ++ d ∷ [] }

-- a card in deck d, in front of its last `behind` cards
abbrev pub with_card : Serial → ℕ → CardView → LibraryView → LibraryView
with_card d behind c l = with_cards d (λ cards. insert cards (length cards - behind) c) l

-- a yank card at the end of `YANK$$$`
abbrev pub with_yank : CardView → LibraryView → LibraryView
with_yank c l = record l { yanks = l.yanks ++ c ∷ [] }

-- a card with one more entry
abbrev pub entered : Entry → CardView → CardView
entered e c = record c { history = c.history ++ e ∷ [] }

-- cards with an entry appended to each from one index to another, whatever its status
abbrev pub entered_range : ℕ → ℕ → Entry → List CardView → List CardView
entered_range from to e cards = take from cards ++ map (entered e) (drop from (take (to + 1) cards)) ++ drop (to + 1) cards

-- the same in deck d
abbrev pub with_entries : Serial → ℕ → ℕ → Entry → LibraryView → LibraryView
with_entries d from to e l = with_cards d (entered_range from to e) l

-- a card without the entries of the idents that pass a test
abbrev pub without_entries : (Serial → Bool) → CardView → CardView
without_entries gone c = record c { history = filter (λ e. not (gone e.ident)) c.history }

-- cards without the cards and the entries of these idents
abbrev pub without_idents : (Serial → Bool) → List CardView → List CardView
without_idents gone cards = map (without_entries gone) (filter (λ c. not (gone c.ident)) cards)

-- a deck without the cards and the entries of these idents
abbrev pub deck_without : (Serial → Bool) → DeckView → DeckView
deck_without gone d = record d { cards = without_idents gone d.cards }

-- decks without those of these idents, and without their cards and entries
abbrev pub decks_without : (Serial → Bool) → List DeckView → List DeckView
decks_without gone decks = map (deck_without gone) (filter (λ d. not (gone d.ident)) decks)

-- an ident after a purge of the idents that pass a test
abbrev pub unheld : (Serial → Bool) → Ident → Ident
unheld gone i = record i { held = i.held && not (gone i.age) }

-- A purge of the idents that pass a test: it removes their decks with all cards, and their cards and entries from every deck and from
-- `YANK$$$`; they are no longer held.
abbrev pub purged : (Serial → Bool) → LibraryView → LibraryView
purged gone l = record {
  idents = map (unheld gone) l.idents;
  decks = decks_without gone l.decks;
  yanks = without_idents gone l.yanks;
  rest = l.rest;
}

-- a purge of one ident in deck d; it stays held
abbrev pub purged_in : Serial → Serial → LibraryView → LibraryView
purged_in d z l = with_cards d (without_idents (λ x. x == z)) l

-- whether a serial is in a list
abbrev pub is_among : List Serial → Serial → Bool
is_among ages z = list_any (λ a. a == z) ages

-- a purge of some idents in deck d; they stay held
abbrev pub purged_among : Serial → List Serial → LibraryView → LibraryView
purged_among d ages l = with_cards d (without_idents (is_among ages)) l

-- back to before the ident with serial x: a purge of it and of all younger ones
abbrev pub purged_back : Serial → LibraryView → LibraryView
purged_back x l = purged (nat_le x) l
