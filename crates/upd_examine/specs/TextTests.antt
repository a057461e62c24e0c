-- Names, texts and numbers of cards as tests. `HasLineTexts` of `upd_laws` says the same.
use Rattle.std.specs.Prelude.{ℕ, nat_le, nat_lt, Bool, ◌&&◌, length}
use Rattle.std.specs.List.{list_all}
use Rattle.upd_text.specs.Names.{is_name}
use Rattle.upd_text.specs.Units.{Bytes}
use Rattle.upd_text.specs.declared.limits.TheConstants.{MAX_LINE_BYTES, MAX_RUN_LINES}
use Rattle.upd_core.specs.Library.{CardView, LibraryView}
use Rattle.upd_deck.specs.Reading.{is_allowed}

-- whether a text is that of a line: at most 80 bytes, all of them allowed
abbrev pub is_line_text : Bytes → Bool
is_line_text text = nat_le (length text) MAX_LINE_BYTES && list_all is_allowed text

-- whether a number is one that a card of a run has: 1 to 2,000
abbrev pub is_number_of_run : ℕ → Bool
is_number_of_run n = nat_lt 0 n && nat_le n MAX_RUN_LINES

-- whether a card has the text of a line, and a number that a card of a run has
abbrev pub is_card_of_run : CardView → Bool
is_card_of_run c = is_line_text c.text && is_number_of_run c.number

-- whether the idents of a library have valid names, and its cards are as runs bring them
abbrev pub has_line_texts : LibraryView → Bool
has_line_texts l =
    list_all (λ i. is_name i.name) l.idents
    && (list_all is_card_of_run l.yanks && list_all (λ d. list_all is_card_of_run d.cards) l.decks)
