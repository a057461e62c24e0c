-- The invariant of libraries as tests of its parts, each in one pass. `IsSound` of `upd_core` says the same.
use Rattle.std.specs.Prelude.{ℕ, ◌+◌, ◌-◌, ◌==◌, nat_le, nat_lt, max, Bool, true, false, ◌&&◌, if◌then◌else◌, List, [], ◌∷◌, length, map, slice_get}
use Rattle.std.specs.List.{filter, list_all}
use Rattle.std.specs.Option.{option_map_or}
use Rattle.upd_core.specs.declared.card.Entry.{Entry}
use Rattle.upd_core.specs.declared.ident.Ident.{Ident}
use Rattle.upd_core.specs.declared.target.Target.{Target}
use Rattle.upd_core.specs.declared.target.Target.TheVariants.{Set, SetIn, Deck}
use Rattle.upd_core.specs.Library.{CardView, DeckView, LibraryView, is_deck_kind}

-- whether the serials of a directory are n, n + 1, ..
abbrev pub are_aged_from : ℕ → List Ident → Bool
are_aged_from n [] = true
are_aged_from n (i ∷ rest) = (i.age == n) && are_aged_from (n + 1) rest

-- whether the ident at the index of a serial is held: serial n is at index n - 1
abbrev pub held_at : List Ident → ℕ → Bool
held_at idents z = if z == 0 then false else option_map_or (λ i. i.held) (slice_get idents (z - 1)) false

-- the serials of the held decks of a directory
abbrev pub held_decks : List Ident → List ℕ
held_decks idents = map (λ i. i.age) (filter (λ i. i.held && is_deck_kind i.kind) idents)

-- whether a card is card 1 of an ident
abbrev pub is_first : ℕ → CardView → Bool
is_first ident c = (c.ident == ident) && (c.number == 1)

-- whether a deck begins with card 1 of its own ident
abbrev pub begins_with_its_own : DeckView → Bool
begins_with_its_own d = option_map_or (is_first d.ident) (slice_get d.cards 0) false

-- whether an entry switches on and is of an ident
abbrev pub switches_on : ℕ → Entry → Bool
switches_on ident e = (e.ident == ident) && e.active

-- whether a card's history begins with its own ident, switched on
abbrev pub begins_on : CardView → Bool
begins_on c = option_map_or (switches_on c.ident) (slice_get c.history 0) false

-- whether a card's ident is held, and those of its entries
abbrev pub is_of_held : List Ident → CardView → Bool
is_of_held idents c = held_at idents c.ident && list_all (λ e. held_at idents e.ident) c.history

-- whether a serial is less than another; that of `YANK$$$`, which is 0, is not
abbrev pub is_older : ℕ → ℕ → Bool
is_older age z = nat_lt 0 z && nat_lt z age

-- whether what a target names is older than a serial
abbrev pub takes_older : ℕ → Target → Bool
takes_older age (Set z) = is_older age z
takes_older age (SetIn z d) = is_older age z && is_older age d
takes_older age (Deck d) = is_older age d

-- whether the entries of a card have this serial or a greater one
abbrev pub has_entries_from : ℕ → CardView → Bool
has_entries_from age c = list_all (λ e. nat_le age e.ident) c.history

-- whether `YANK$$$` is in order, behind cards of which the greatest serial is n
abbrev pub are_yanks_from : ℕ → List CardView → Bool
are_yanks_from n [] = true
are_yanks_from n (y ∷ ys) =
    list_all (takes_older y.ident) y.targets && (has_entries_from (max n y.ident) y && are_yanks_from (max n y.ident) ys)

-- whether a card and its history are sound
abbrev pub is_card_sound : List Ident → CardView → Bool
is_card_sound idents c = is_of_held idents c && begins_on c

-- whether no card of a deck has targets
abbrev pub has_no_targets : DeckView → Bool
has_no_targets d = list_all (λ c. length c.targets == 0) d.cards

-- whether a deck and its cards are sound
abbrev pub is_deck_sound : List Ident → DeckView → Bool
is_deck_sound idents d = begins_with_its_own d && (has_no_targets d && list_all (is_card_sound idents) d.cards)

-- whether all cards of a library are sound, and all of them are loaded
abbrev pub are_parts_sound : LibraryView → Bool
are_parts_sound l =
    (l.rest.cards == 0) && ((l.rest.entries == 0) && (list_all (is_deck_sound l.idents) l.decks
    && (list_all (is_card_sound l.idents) l.yanks && are_yanks_from 0 l.yanks)))
