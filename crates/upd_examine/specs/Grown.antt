-- What runs leave of a library, beside its invariant: that each library which runs make is so is tested.
use Rattle.std.specs.Prelude.{ℕ, ◌+◌, ◌==◌, nat_le, Bool, true, ◌&&◌, if◌then◌else◌, List, [], ◌∷◌, drop, length, slice_get}
use Rattle.std.specs.List.{list_all}
use Rattle.std.specs.Option.{option_map_or}
use Rattle.upd_core.specs.declared.card.Entry.{Entry}
use Rattle.upd_core.specs.Library.{CardView, DeckView, LibraryView}
use Rattle.upd_core.specs.Serials.{Serial}

-- whether entries are in order of their idents, the first of which is not older than one
abbrev pub are_entries_from : Serial → List Entry → Bool
are_entries_from z [] = true
are_entries_from z (e ∷ es) = nat_le z e.ident && are_entries_from e.ident es

-- whether the entries behind the first of a card are in order of their idents
abbrev pub has_entries_in_order : CardView → Bool
has_entries_in_order c = are_entries_from 0 (drop 1 c.history)

-- whether the cards of an ident among these are numbered n, n + 1, .. in order
abbrev pub are_numbered_from : ℕ → Serial → List CardView → Bool
are_numbered_from n z [] = true
are_numbered_from n z (c ∷ cs) = if c.ident == z then (c.number == n) && are_numbered_from (n + 1) z cs else are_numbered_from n z cs

-- whether no run has switched the first card of a deck
abbrev pub is_begun_once : DeckView → Bool
is_begun_once d = option_map_or (λ c. length c.history == 1) (slice_get d.cards 0) true

-- whether a deck's own cards have their numbers in order, no run has switched the first, and each card's entries are in order
abbrev pub is_deck_grown : DeckView → Bool
is_deck_grown d = is_begun_once d && (are_numbered_from 1 d.ident d.cards && list_all has_entries_in_order d.cards)

-- whether all decks of a library are so, and the entries of yank cards are in order
abbrev pub is_grown : LibraryView → Bool
is_grown l = list_all is_deck_grown l.decks && list_all has_entries_in_order l.yanks
