-- Moves of a deck's cards in order, and shifts that do the same at once.
use Rattle.std.specs.Prelude.{◌≡◌, ℕ, ◌+◌, ◌-◌, ℤ, pos, negsuc, ◌==◌, ◌≤◌, ◌<◌, nat_le, Bool, ◌&&◌, if◌then◌else◌, IsTrue, IfSome, List, [], ◌∷◌, map, Option}
use Rattle.std.specs.Prelude.{Some, None}
use Rattle.std.specs.List.{AllByRecursion}
use Rattle.std.specs.Str.{bytes_eq}
use Rattle.std.specs.declared.cmp.Ordering.TheVariants.{Less}
use Rattle.upd_text.specs.Order.{by_name}
use Rattle.upd_text.specs.declared.card_ref.CardRef.{CardRef}
use Rattle.upd_records.specs.Changes.{CardsMoved, ChangeView, moved_row, shifted}
use Rattle.upd_records.specs.Fits.{CanMove}
use Rattle.upd_records.specs.Rows.{CardRow, Rows}
use Rattle.upd_row_store.specs.declared.moves.Move.{Move}
use Rattle.upd_row_store.specs.declared.pieces.Piece.{Piece}
use Rattle.upd_row_store.specs.declared.shift.Shift.{Shift}

-- ---- moves

-- a move as a change
abbrev pub as_change : ℕ → Move → ChangeView
as_change deck m = CardsMoved deck m.from m.by

-- a position after moves in order
abbrev pub moved_pos : List Move → ℕ → ℕ
moved_pos [] p = p
moved_pos (m ∷ ms) p = moved_pos ms (if nat_le m.from p then shifted m.by p else p)

-- the row of a card after moves in order
abbrev pub moved_all : ℕ → List Move → CardRow → CardRow
moved_all deck [] r = r
moved_all deck (m ∷ ms) r = moved_all deck ms (moved_row deck m.from m.by r)

-- how far a move goes to the front
abbrev pub forward : ℤ → ℕ
forward (pos n) = 0
forward (negsuc n) = n + 1

-- the first place that a move changes: that of its first card, before or after it
abbrev pub foot : Move → ℕ
foot m = m.from - forward m.by

-- no move changes a place before the first that the move before it changes, nor before this one
abbrev pub Rises : ℕ → List Move → Type 0
Rises last [] = Unit {0}
Rises last (m ∷ ms) = (last ≤ foot m) × Rises (foot m) ms

-- the moves in order move each position of a piece as far as the piece says
abbrev pub IsPiece : List Move → Piece → Type 0
IsPiece ms piece = (p : ℕ) → piece.least ≤ p → IfSome piece.below (λ below. p < below) → moved_pos ms p ≡ shifted piece.by p

-- the moves that are left move a position of a piece, once it has moved as far as the piece says, to where all move it
abbrev pub Reaches : List Move → List Move → Piece → Type 0
Reaches ms left piece = (p : ℕ) → piece.least ≤ p → moved_pos left (shifted piece.by p) ≡ moved_pos ms p

-- ---- shifts

-- whether a row is of a deck, at a place or after it
abbrev pub is_behind : ℕ → ℕ → CardRow → Bool
is_behind deck from r = (r.deck == deck) && nat_le from r.pos

-- whether a card is of a shift
abbrev pub covers_by : Shift → CardRef → Bool
covers_by s card = bytes_eq s.name card.name && (nat_le s.first card.number && nat_le card.number s.last)

-- a row after a shift of the cards of a deck that are at a place or after it
abbrev pub shifted_row : ℕ → ℕ → Shift → CardRow → CardRow
shifted_row deck from s r = if covers_by s r.card then moved_row deck from s.by r else r

-- the tables after a shift
abbrev pub with_shifted : ℕ → ℕ → Shift → Rows → Rows
with_shifted deck from s rows = record rows { cards = map (shifted_row deck from s) rows.cards }

-- a shift moves a row to no position that isn't valid
abbrev pub CanShiftRow : ℕ → ℕ → Shift → CardRow → Type 0
CanShiftRow deck from s r = IsTrue (covers_by s r.card) → IsTrue (is_behind deck from r) → CanMove s.by r.pos

-- a shift moves no row to a position that isn't valid
abbrev pub CanShift : ℕ → ℕ → Shift → Rows → Type 0
CanShift deck from s rows = AllByRecursion (CanShiftRow deck from s) rows.cards

-- a row after shifts in order
abbrev pub shifted_all : ℕ → ℕ → List Shift → CardRow → CardRow
shifted_all deck from [] r = r
shifted_all deck from (s ∷ ss) r = shifted_all deck from ss (shifted_row deck from s r)

-- none of these shifts moves a row to a position that isn't valid
abbrev pub CanShiftAll : ℕ → ℕ → List Shift → CardRow → Type 0
CanShiftAll deck from [] r = Unit {0}
CanShiftAll deck from (s ∷ ss) r = CanShiftRow deck from s r × CanShiftAll deck from ss (shifted_row deck from s r)

-- shifts do to a row what moves do
pub record IsRight (deck from : ℕ) (ms : List Move) (ss : List Shift) (r : CardRow) : Type 0 where
  pub can : CanShiftAll deck from ss r
  pub same : shifted_all deck from ss r ≡ moved_all deck ms r

-- ---- shifts in order

abbrev pub first_of : Shift → CardRef
first_of s = record { name = s.name; number = s.first }

abbrev pub last_of : Shift → CardRef
last_of s = record { name = s.name; number = s.last }

-- the cards of a shift are after a card
abbrev pub IsAfter : Option CardRef → Shift → Type 0
IsAfter None s = s.first ≤ s.last
IsAfter (Some card) s = (by_name card (first_of s) ≡ Less) × (s.first ≤ s.last)

-- shifts are in order, and after a card
abbrev pub IsChain : Option CardRef → List Shift → Type 0
IsChain last [] = Unit {0}
IsChain last (s ∷ ss) = IsAfter last s × IsChain (Some (last_of s)) ss

-- the cards of each shift are before those of all that come after it
abbrev pub AreApart : List Shift → Type 0
AreApart [] = Unit {0}
AreApart (s ∷ ss) = AllByRecursion (λ t. by_name (last_of s) (first_of t) ≡ Less) ss × AreApart ss
