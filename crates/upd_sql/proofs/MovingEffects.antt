-- What the texts of moves at many places find in the tables, and make of them.
use Rattle.upd_sql.proofs.Common.{◌≡◌, ℕ, ◌+◌, ◌-◌, ◌<◌, ◌^◌, nat_le, pos, negsuc, true, ◌&&◌, List, [], ◌∷◌, map, filter, refl, ap}
use Rattle.upd_sql.proofs.Common.{ap₂, ◌∙◌, arith, bytes_eq, Int, Text, Row, State, Shown, CardRow, Rows, num, card_row, stored, HoldsTables, all_weaker}
use Rattle.upd_sql.proofs.Common.{and_parts, eq_nat, eq_text, two_tests, three_tests, Result, Error, Ran, Makes}
use Rattle.std.proofs.Common.{◌≤◌, ℤ, ◌+ℤ◌, nat_lt}
use Rattle.std.proofs.lemmas.Bool.Decides.{nat_tests}
use Rattle.std.proofs.lemmas.Int.{ints}
use Rattle.sqlite_sql.specs.declared.ops.ArithOp.TheVariants.{Add}
use Rattle.sqlite_sql.specs.declared.ops.BinaryOp.TheVariants.{Arith}
use Rattle.sqlite_sql.specs.Ops.{binary}
use Rattle.upd_records.specs.Changes.{shifted}
use Rattle.upd_records.specs.Fits.{CanMove}
use Rattle.upd_row_store.specs.declared.shift.Shift.{Shift}
use Rattle.upd_row_store.specs.Shifts.{CanShift, covers_by, is_behind, shifted_row, with_shifted}
use Rattle.upd_sqlite.proofs.Tests.{ge_nat, le_nat, add_nat}
use Rattle.upd_sql.proofs.Typed.{changes, reads_exactly}
use Rattle.upd_sql.proofs.Effects.{cards}
use Rattle.upd_sql.proofs.Conditions.{both_if, bytes_flip, grouped, passes}
use Rattle.upd_sql.proofs.ReadTexts.{five}
use Rattle.upd_sql.proofs.WholeLemmas.{all_pass}
use Rattle.upd_sql.proofs.WriteTexts.{place_tests}
use Rattle.upd_sql.proofs.MovingTexts as text
use Rattle.upd_sql.specs.declared.moving_texts.TheConstants as sql

rest_of : (a n : ℕ) → n + 1 ≤ a → pos a +ℤ negsuc n ≡ pos (a - (n + 1))
rest_of a n h = omega (arith, ints)

low : (n : ℕ) → n < 2 ^ 63 → nat_lt n (2 ^ 63) ≡ true
low n h = grind (arith, nat_tests)

less_nat : (a n : ℕ) → n + 1 ≤ a → a < 2 ^ 63 → binary (Arith Add) (Int (pos a)) (Int (negsuc n)) ≡ Int (pos (a - (n + 1)))
unfolding binary
less_nat a n h k = rw (rest_of a n h, low (a - (n + 1)) (omega arith)) refl

-- the sum of a position and a signed distance
sum_of : (by : ℤ) (p : ℕ) → CanMove by p → binary (Arith Add) (num p) (Int by) ≡ num (shifted by p)
sum_of (pos n) p can = add_nat p n (omega (arith, can))
sum_of (negsuc n) p can = less_nat p n can.0 (omega (arith, can.1))

abbrev pub shift_params : ℕ → ℕ → Shift → Row
shift_params deck from s = Text s.name ∷ num s.first ∷ num s.last ∷ num deck ∷ num from ∷ Int s.by ∷ []

pub cards_turned : (old new : State) (rows : List Row) (it : Rows) (h : HoldsTables it old.now) → Shown sql.CARDS_IN_TURN.now [] old new rows
    → rows ≡ map card_row it.cards
cards_turned old new rows it h shown =
    reads_exactly 2 4 refl card_row (stored it) it.cards refl _ [] old new rows shown h [] five text.cards_in_turn refl refl (λ _. true) (λ x. refl) (λ x. refl)
    ∙ ap (map card_row) (all_pass it.cards)

module _ (deck from : ℕ) where
  behind : (r : CardRow) → passes (num deck ∷ num from ∷ []) place_tests (card_row r) ≡ is_behind deck from r
  behind r = two_tests (eq_nat r.deck deck) (ge_nat r.pos from)

  pub cards_found : (old new : State) (rows : List Row) (it : Rows) (h : HoldsTables it old.now)
      → Shown sql.CARDS_BEHIND.now (num deck ∷ num from ∷ []) old new rows → rows ≡ map card_row (filter (is_behind deck from) it.cards)
  cards_found old new rows it h shown =
      reads_exactly 2 4 refl card_row (stored it) it.cards refl _ _ old new rows shown h place_tests five text.cards_behind refl refl
      (is_behind deck from) behind (λ r. refl)

  pub shift_moved : {X : Type 0} {old new : State} {r : Result X Error} (s : Shift) → Ran sql.MOVE_SHIFT.now (shift_params deck from s) old new r
      → Makes HoldsTables (CanShift deck from s) (with_shifted deck from s) old new r
  shift_moved s ran =
      changes cards ran text.move_shift refl (λ c. covers_by s c.card && is_behind deck from c) covered refl (shifted_row deck from s)
      (λ c. record c { pos = shifted s.by c.pos }) (λ c. both_if (covers_by s c.card) (is_behind deck from c) _ c)
      (λ it can. all_weaker _ _ (λ c can there. let are = and_parts _ _ there in
      ap (λ v. Text c.card.name ∷ num c.card.number ∷ num c.deck ∷ v ∷ Text c.body ∷ []) (sum_of s.by c.pos (can are.0 are.1))) it.cards can) (λ it. refl)
    where
      covered : (c : CardRow) → passes (shift_params deck from s) text.move_shift_tests (card_row c) ≡ (covers_by s c.card && is_behind deck from c)
      covered c =
          ap₂ ◌&&◌ (eq_text c.card.name s.name ∙ bytes_flip c.card.name s.name)
          (ap₂ ◌&&◌ (ge_nat c.card.number s.first) (three_tests (le_nat c.card.number s.last) (eq_nat c.deck deck) (ge_nat c.pos from))
          ∙ grouped (nat_le s.first c.card.number) (nat_le c.card.number s.last) (is_behind deck from c))
          ∙ grouped (bytes_eq s.name c.card.name) (nat_le s.first c.card.number && nat_le c.card.number s.last) (is_behind deck from c)
