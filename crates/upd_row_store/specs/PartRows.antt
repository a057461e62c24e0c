-- The rows of a library of which some decks aren't loaded.
use Rattle.std.specs.Prelude.{ℕ, ◌≤◌, ◌==◌, ◌||◌, Bool, List, count_by}
use Rattle.std.specs.List.{filter, list_any}
use Rattle.upd_text.specs.declared.card_ref.CardRef.{CardRef}
use Rattle.upd_core.specs.Edits.{is_among}
use Rattle.upd_records.specs.Rows.{CardRow, EntryRow, Rows, same_ref}

-- whether a deck is loaded: `YANK$$$` always, others where they are of these ages
abbrev pub is_loaded : List ℕ → ℕ → Bool
is_loaded ages d = (d == 0) || is_among ages d

-- whether an entry is of one of these cards
abbrev pub is_of : List CardRow → EntryRow → Bool
is_of cards e = list_any (λ r. same_ref r.card e.card) cards

-- the tables with the cards of the loaded decks alone, and the entries of these
abbrev pub part_rows : List ℕ → Rows → Rows
part_rows ages rows = record rows {
  cards = filter (λ r. is_loaded ages r.deck) rows.cards;
  entries = filter (is_of (filter (λ r. is_loaded ages r.deck) rows.cards)) rows.entries;
}

-- no two rows are of one card
abbrev pub AreOfDistinctCards : List CardRow → Type 0
AreOfDistinctCards rows = (card : CardRef) → count_by (λ r. same_ref card r.card) rows ≤ 1
