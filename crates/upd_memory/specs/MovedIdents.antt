-- The idents of the cards that row changes move, and the places from which on decks move.
use Rattle.std.specs.Prelude.{ℕ, nat_le, Bool, false, ◌&&◌}
use Rattle.std.specs.BTreeMap.{BTreeMap, get}
use Rattle.std.specs.Option.{option_map_or}
use Rattle.std.specs.Ordering.{nat_cmp}
use Rattle.std.specs.Str.{bytes_eq}
use Rattle.upd_text.specs.declared.card_ref.CardRef.{CardRef}
use Rattle.upd_records.specs.Changes.{CardNew, ChangeView}

-- whether a card is of the ident of another, with its number or a later one
abbrev pub is_from : CardRef → CardRef → Bool
is_from first card = bytes_eq first.name card.name && nat_le first.number card.number

-- whether a place of a deck is one from which on it moves, or after it
abbrev pub is_reached : BTreeMap ℕ ℕ → ℕ → ℕ → Bool
is_reached places d p = option_map_or (λ from. nat_le from p) (get nat_cmp places d) false

-- whether a change adds a card of the ident of this one, with its number or an earlier one
abbrev pub adds_from : ChangeView → CardRef → Bool
adds_from (CardNew new deck p body) card = is_from new card
adds_from _ card = false
