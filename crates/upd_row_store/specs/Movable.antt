-- Which cards row changes move, and a list by which a store may look for them.
use Rattle.std.specs.Prelude.{ℕ, ◌==◌, nat_le, Bool, false, ◌&&◌, IsTrue, List, [], ◌∷◌}
use Rattle.std.specs.BTreeMap.{BTreeMap, get}
use Rattle.std.specs.Cmp.Lexicographic.{slice_cmp}
use Rattle.std.specs.List.{AllByRecursion}
use Rattle.std.specs.Option.{option_map_or}
use Rattle.std.specs.Ordering.{nat_cmp}
use Rattle.upd_text.specs.declared.card_ref.CardRef.{CardRef}
use Rattle.upd_records.specs.Changes.{ChangeView, CardsMoved, done}
use Rattle.upd_records.specs.Rows.{CardRow, Rows}

-- whether a change moves the cards at this place of a deck
abbrev pub moves_at : ChangeView → ℕ → ℕ → Bool
moves_at (CardsMoved deck from by) d p = (d == deck) && nat_le from p
moves_at _ d p = false

-- whether a card is listed: its ident is, with a number that is at most the card's
abbrev pub is_listed : BTreeMap (List ℕ) ℕ → CardRef → Bool
is_listed movable card = option_map_or (λ least. nat_le least card.number) (get (slice_cmp nat_cmp) movable card.name) false

-- each card that a change moves is listed
abbrev pub MovesListed : BTreeMap (List ℕ) ℕ → ChangeView → Rows → Type 0
MovesListed movable c rows = AllByRecursion (λ (r : CardRow). IsTrue (moves_at c r.deck r.pos) → IsTrue (is_listed movable r.card)) rows.cards

-- each change moves only cards that are listed, in the tables that the changes before it leave
abbrev pub AllMoveListed : BTreeMap (List ℕ) ℕ → List ChangeView → Rows → Type 0
AllMoveListed movable [] rows = Unit {0}
AllMoveListed movable (c ∷ cs) rows = MovesListed movable c rows × AllMoveListed movable cs (done c rows)
