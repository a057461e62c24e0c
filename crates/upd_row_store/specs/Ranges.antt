-- Rows of cards that go, and ranges of such cards.
use Rattle.std.specs.Prelude.{nat_le, Bool, not, ◌&&◌, List}
use Rattle.std.specs.List.{filter, list_any}
use Rattle.std.specs.Str.{bytes_eq}
use Rattle.upd_text.specs.declared.card_ref.CardRef.{CardRef}
use Rattle.upd_records.specs.Rows.{Rows, same_ref}
use Rattle.upd_row_store.specs.declared.ranges.CardRange.{CardRange}
use Rattle.upd_row_store.specs.declared.ranges.CardRows.{CardRows}
use Rattle.upd_row_store.specs.declared.ranges.CardRows.TheVariants.{Card, Entries, Targets}
use Rattle.upd_row_store.specs.declared.ranges.Gone.{Gone}
use Rattle.upd_row_store.specs.declared.ranges.GoneCards.{GoneCards}

-- whether a card is of a range
abbrev pub in_range : CardRange → CardRef → Bool
in_range range card = bytes_eq range.name card.name && (nat_le range.first card.number && nat_le card.number range.last)

-- whether a card is of one of these ranges
abbrev pub in_ranges : List CardRange → CardRef → Bool
in_ranges ranges card = list_any (λ range. in_range range card) ranges

-- whether a card is one of these
abbrev pub is_among : List CardRef → CardRef → Bool
is_among cards card = list_any (λ c. same_ref c card) cards

-- the tables without these rows of the cards that go
abbrev pub without_rows : CardRows → (CardRef → Bool) → Rows → Rows
without_rows Entries goes rows = record rows { entries = filter (λ r. not (goes r.card)) rows.entries }
without_rows Targets goes rows = record rows { targets = filter (λ r. not (goes r.card)) rows.targets }
without_rows Card goes rows = record rows { cards = filter (λ r. not (goes r.card)) rows.cards; states = filter (λ r. not (goes r.card)) rows.states }

-- the tables without the rows of the cards in ranges
abbrev pub without : Gone → Rows → Rows
without gone rows =
    without_rows Card (in_ranges gone.cards.items) (without_rows Targets (in_ranges gone.targets.items)
    (without_rows Entries (in_ranges gone.entries.items) rows))

-- the tables without the rows of these cards
abbrev pub without_cards : GoneCards → Rows → Rows
without_cards gone rows =
    without_rows Card (is_among gone.cards.items) (without_rows Targets (is_among gone.targets.items) (without_rows Entries (is_among gone.entries.items) rows))
