-- Rows in memory under their keys, and when they are the rows of a table.
use Rattle.std.specs.Prelude.{◌≡◌, ℕ, ◌==◌, Bool, false, ◌&&◌, is_some, List, [], ◌∷◌}
use Rattle.std.specs.BTreeMap.{BTreeMap, get}
use Rattle.std.specs.List.{filter, list_any}
use Rattle.std.specs.Option.{option_map_or}
use Rattle.std.specs.Ordering.{nat_cmp}
use Rattle.std.specs.declared.vec.Vec.{Vec}
use Rattle.upd_text.specs.Order.{by_name}
use Rattle.upd_text.specs.declared.card_ref.CardRef.{CardRef}
use Rattle.upd_records.specs.Rows.{CardRow, EntryRow, IsSame, StateRow, same_ref, state_rows}

-- the rows of a deck's cards
abbrev pub cards_at : {Z : Type 0} → BTreeMap ℕ (Vec CardRow Z) → ℕ → List CardRow
cards_at decks d = option_map_or (λ v. v.items) (get nat_cmp decks d) []

-- the rows of a card's entries
abbrev pub entries_at : {Z : Type 0} → BTreeMap CardRef (Vec EntryRow Z) → CardRef → List EntryRow
entries_at entries card = option_map_or (λ v. v.items) (get by_name entries card) []

-- whether a card is in a set
abbrev pub is_in : {A : Type 0} → BTreeMap CardRef A → CardRef → Bool
is_in set card = is_some (get by_name set card)

-- whether a card is known to be in a deck
abbrev pub is_home : BTreeMap CardRef ℕ → CardRef → ℕ → Bool
is_home homes card d = option_map_or (λ home. home == d) (get by_name homes card) false

-- at each deck are the rows of its cards, as often, in whatever order
abbrev pub AreCards : {Z : Type 0} → BTreeMap ℕ (Vec CardRow Z) → List CardRow → Type 0
AreCards decks rows = (d : ℕ) → IsSame (cards_at decks d) (filter (λ r. r.deck == d) rows)

-- each card is known to be in the decks that its rows have
abbrev pub AreHomes : BTreeMap CardRef ℕ → List CardRow → Type 0
AreHomes homes rows = (card : CardRef) (d : ℕ) → is_home homes card d ≡ list_any (λ r. (r.deck == d) && same_ref card r.card) rows

-- at each card are the rows of its entries, as often, in whatever order
abbrev pub AreEntries : {Z : Type 0} → BTreeMap CardRef (Vec EntryRow Z) → List EntryRow → Type 0
AreEntries entries rows = (card : CardRef) → IsSame (entries_at entries card) (filter (λ r. same_ref card r.card) rows)

-- at each card is its status, the only one that it has
abbrev pub AreStatuses : BTreeMap CardRef Bool → List StateRow → Type 0
AreStatuses statuses rows = (card : CardRef) → IsSame (state_rows card (get by_name statuses card)) (filter (λ r. same_ref card r.card) rows)

-- a card with its status, if it has one
abbrev pub pairs_at : BTreeMap CardRef Bool → CardRef → List (CardRef × Bool)
pairs_at statuses card = option_map_or (λ active. (card, active) ∷ []) (get by_name statuses card) []
