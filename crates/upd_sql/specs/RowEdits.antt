-- What single statements do to the tables, where a change of rows takes two of them.
use Rattle.std.specs.Prelude.{ℕ, ◌+◌, ◌^◌, ◌<◌, ◌==◌, nat_le, pos, Bool, not, ◌&&◌, if◌then◌else◌, IsTrue, List, [], ◌∷◌, ◌++◌, map}
use Rattle.std.specs.List.{AllByRecursion, filter, list_any}
use Rattle.std.specs.Str.{bytes_eq}
use Rattle.upd_text.specs.declared.card_ref.CardRef.{CardRef}
use Rattle.upd_core.specs.declared.target.Target.{Target}
use Rattle.upd_core.specs.Targets.{is_same}
use Rattle.upd_records.specs.Changes.{moved_row, restated}
use Rattle.upd_records.specs.Rows.{Rows}
use Rattle.upd_row_store.specs.Tables.{is_settled, is_mark_of}

-- without the rows of the cards that go, but with their statuses
abbrev pub without_card_rows : (CardRef → Bool) → Rows → Rows
without_card_rows goes rows = record rows { cards = filter (λ r. not (goes r.card)) rows.cards }

-- without the statuses of the cards that go
abbrev pub without_states : (CardRef → Bool) → Rows → Rows
without_states goes rows = record rows { states = filter (λ r. not (goes r.card)) rows.states }

-- with a card's status changed in place
abbrev pub with_restated : CardRef → Bool → Rows → Rows
with_restated card active rows = record rows { states = map (restated card active) rows.states }

-- with one status more
abbrev pub with_state : CardRef → Bool → Rows → Rows
with_state card active rows = record rows { states = rows.states ++ record { card = card; active = active } ∷ [] }

-- without a target's count
abbrev pub without_count : Target → Rows → Rows
without_count target rows = record rows { counts = filter (λ r. not (is_same target r.target)) rows.counts }

-- with one count more
abbrev pub with_count : Target → ℕ → Rows → Rows
with_count target n rows = record rows { counts = rows.counts ++ record { target = target; n = n } ∷ [] }

-- without a site's mark
abbrev pub without_mark : List ℕ → Rows → Rows
without_mark site rows = record rows { settled = filter (λ m. not (is_mark_of site m)) rows.settled }

-- with one mark more
abbrev pub with_mark : List ℕ → ℕ → Rows → Rows
with_mark site n rows = record rows { settled = rows.settled ++ record { site = site; mark = n } ∷ [] }

-- without a site's runs up to a number
abbrev pub without_runs : List ℕ → ℕ → Rows → Rows
without_runs site n rows = record rows { runs = filter (λ r. not (is_settled site n r)) rows.runs }

-- with a site's runs up to a number gone and its mark at that number
abbrev pub with_runs_settled : List ℕ → ℕ → Rows → Rows
with_runs_settled site n rows = record rows {
  runs = filter (λ r. not (is_settled site n r)) rows.runs;
  settled = filter (λ m. not (is_mark_of site m)) rows.settled ++ record { site = site; mark = n } ∷ [];
}

-- whether a card is of an ident, with this number or a later one
abbrev pub covers : List ℕ × ℕ → CardRef → Bool
covers e card = bytes_eq e.0 card.name && nat_le e.1 card.number

-- with the cards of a deck moved by n that are at position `from` or later: those of an ident from a number on
abbrev pub with_moved : List ℕ × ℕ → ℕ → ℕ → ℕ → Rows → Rows
with_moved e deck from n rows = record rows { cards = map (λ r. if covers e r.card then moved_row deck from (pos n) r else r) rows.cards }

-- these cards can be moved so
abbrev pub CanMoveOf : List ℕ × ℕ → ℕ → ℕ → ℕ → Rows → Type 0
CanMoveOf e deck from n rows =
    AllByRecursion (λ r. IsTrue (covers e r.card) → IsTrue ((r.deck == deck) && nat_le from r.pos) → r.pos + n < 2 ^ 32) rows.cards

-- with the cards of a deck moved so, but for those of these idents from their numbers on
abbrev pub with_others_moved : List (List ℕ × ℕ) → ℕ → ℕ → ℕ → Rows → Rows
with_others_moved es deck from n rows =
    record rows { cards = map (λ r. if list_any (λ e. covers e r.card) es then r else moved_row deck from (pos n) r) rows.cards }
