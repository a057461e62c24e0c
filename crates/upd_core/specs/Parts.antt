-- Parts of a library: libraries of which some decks aren't loaded.
use Rattle.std.specs.Prelude.{ℕ, ◌+◌, Bool, not, List, length, sum_by}
use Rattle.std.specs.List.{filter}
use Rattle.upd_core.specs.Edits.{is_among}
use Rattle.upd_core.specs.Library.{DeckView, LibraryView}

-- the number of cards of decks
abbrev pub cards_of_decks : List DeckView → ℕ
cards_of_decks decks = sum_by (λ d. length d.cards) decks

-- the number of entries in their histories
abbrev pub entries_of_decks : List DeckView → ℕ
entries_of_decks decks = sum_by (λ d. sum_by (λ c. length c.history) d.cards) decks

-- the library without the decks that pass a test; their cards and entries are counted in the rest
abbrev pub part : (ℕ → Bool) → LibraryView → LibraryView
part out l = record l {
  decks = filter (λ d. not (out d.ident)) l.decks;
  rest = record {
    cards = l.rest.cards + cards_of_decks (filter (λ d. out d.ident) l.decks);
    entries = l.rest.entries + entries_of_decks (filter (λ d. out d.ident) l.decks);
  };
}

-- the library with only the decks of these serials, and `YANK$$$`
abbrev pub part_of : List ℕ → LibraryView → LibraryView
part_of ages l = part (λ d. not (is_among ages d)) l
