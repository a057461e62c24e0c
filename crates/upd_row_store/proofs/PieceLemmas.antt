-- Moves at rising places move each position of a range equally far.
use Rattle.std.proofs.Common.{◌≡◌, ℕ, ◌+◌, ◌-◌, ◌<◌, ◌≤◌, nat_le, Bool, true, false, cond, List, [], ◌∷◌, ◌++◌, Some, None, ℤ, ◌+ℤ◌}
use Rattle.std.proofs.Common.{refl, sym, ap, ◌∙◌, arith}
use Rattle.std.specs.List.{AllByRecursion}
use Rattle.std.specs.Prelude.{pos, negsuc}
use Rattle.std.proofs.lemmas.Bool.Decides.{nat_tests}
use Rattle.std.proofs.lemmas.Int.{ints}
use Rattle.upd_records.specs.Changes.{shifted}
use Rattle.upd_records.specs.Fits.{CanMove}
use Rattle.upd_row_store.specs.declared.moves.Move.{Move}
use Rattle.upd_row_store.specs.declared.pieces.Piece.{Piece}
use Rattle.upd_row_store.specs.Shifts.{IsPiece, Reaches, Rises, foot, moved_pos}

from_foot : (m : Move) → foot m ≤ m.from
from_foot m = omega arith

-- moves that are all behind a position leave it
pub stays : (ms : List Move) (last p : ℕ) → Rises last ms → p < last → moved_pos ms p ≡ p
stays [] last p rises low = refl
stays (m ∷ ms) last p rises low =
    let at : last ≤ foot m = rises.0 in
    let up : foot m ≤ m.from = from_foot m in
    let no : nat_le m.from p ≡ false = grind (arith, nat_tests) in
    ap (λ b. moved_pos ms (cond b (shifted m.by p) p)) no ∙ stays ms (foot m) p rises.1 (omega arith)

-- ---- distances

rest_of : (a n : ℕ) → n + 1 ≤ a → pos a +ℤ negsuc n ≡ pos (a - (n + 1))
rest_of a n h = omega (arith, ints)

over_of : (a n : ℕ) → a ≤ n → pos a +ℤ negsuc n ≡ negsuc (n - a)
over_of a n h = omega (arith, ints)

rest_flip : (a n : ℕ) → n + 1 ≤ a → negsuc n +ℤ pos a ≡ pos (a - (n + 1))
rest_flip a n h = omega (arith, ints)

over_flip : (a n : ℕ) → a ≤ n → negsuc n +ℤ pos a ≡ negsuc (n - a)
over_flip a n h = omega (arith, ints)

both_of : (a n : ℕ) → negsuc a +ℤ negsuc n ≡ negsuc (a + n + 1)
both_of a n = omega (arith, ints)

-- a position that moves twice moves as far as both together
pub shifted_twice : (a b : ℤ) (cut p : ℕ) → CanMove a cut → cut ≤ p → shifted (a +ℤ b) p ≡ shifted b (shifted a p)
shifted_twice (pos a) (pos b) cut p can low = omega arith
shifted_twice (pos a) (negsuc b) cut p can low = go (nat_le (b + 1) a) refl
  where
    go : (t : Bool) → nat_le (b + 1) a ≡ t → shifted (pos a +ℤ negsuc b) p ≡ (p + a) - (b + 1)
    go true is = let h : b + 1 ≤ a = grind (arith, nat_tests) in ap (λ z. shifted z p) (rest_of a b h) ∙ omega arith
    go false is = let h : a ≤ b = grind (arith, nat_tests) in ap (λ z. shifted z p) (over_of a b h) ∙ omega arith
shifted_twice (negsuc a) (pos b) cut p can low = go (nat_le (a + 1) b) refl
  where
    far : a + 1 ≤ p
    far = let h = can.0 in omega arith

    go : (t : Bool) → nat_le (a + 1) b ≡ t → shifted (negsuc a +ℤ pos b) p ≡ (p - (a + 1)) + b
    go true is = let h : a + 1 ≤ b = grind (arith, nat_tests) in ap (λ z. shifted z p) (rest_flip b a h) ∙ omega (arith, far)
    go false is = let h : b ≤ a = grind (arith, nat_tests) in ap (λ z. shifted z p) (over_flip b a h) ∙ omega (arith, far)
shifted_twice (negsuc a) (negsuc b) cut p can low = ap (λ z. shifted z p) (both_of a b) ∙ omega arith

-- the positions before the one that is at a place once it has moved are before that place, and the others are not
before_place : (by : ℤ) (cut p from : ℕ) → CanMove by cut → shifted by cut ≡ from → (0 < cut → 0 < from) → p < cut → shifted by p < from
before_place (pos n) cut p from can is some low = omega (arith, is)
before_place (negsuc n) cut p from can is some low =
    let more : 0 < from = some (omega arith) in
    let far = can.0 in
    omega (arith, is)

at_place : (by : ℤ) (cut p from : ℕ) → CanMove by cut → shifted by cut ≡ from → cut ≤ p → from ≤ shifted by p
at_place (pos n) cut p from can is low = omega (arith, is)
at_place (negsuc n) cut p from can is low = omega (arith, is)

-- ---- pieces

module _ (ms left : List Move) (m : Move) (piece : Piece) (reaches : Reaches ms (m ∷ left) piece) where
  -- what a move does not change, no later one does
  pub piece_made : (last cut : ℕ) → CanMove piece.by cut → shifted piece.by cut ≡ foot m → (0 < cut → 0 < foot m) → Rises last (m ∷ left)
      → IsPiece ms (record { least = piece.least; below = Some cut; by = piece.by })
  piece_made last cut can is some rises p at low =
      sym (reaches p at)
      ∙ stays (m ∷ left) (foot m) (shifted piece.by p) (omega arith, rises.1) (before_place piece.by cut p (foot m) can is some low)

  -- what a move reaches moves on
  pub reaches_on : (cut : ℕ) → CanMove piece.by cut → shifted piece.by cut ≡ m.from → piece.least ≤ cut
      → Reaches ms left (record { least = cut; below = None; by = piece.by +ℤ m.by })
  reaches_on cut can is up p at =
      let hit : nat_le m.from (shifted piece.by p) ≡ true = let far = at_place piece.by cut p m.from can is at in grind (arith, nat_tests) in
      ap (moved_pos left) (shifted_twice piece.by m.by cut p can at)
      ∙ sym (ap (λ b. moved_pos left (cond b (shifted m.by (shifted piece.by p)) (shifted piece.by p))) hit)
      ∙ reaches p (omega arith)

pub all_push : {A : Type 0} (P : A → Type 0) (xs : List A) (x : A) → AllByRecursion P xs → P x → AllByRecursion P (xs ++ x ∷ [])
all_push P [] x all one = (one, tt)
all_push P (y ∷ ys) x all one = (all.0, all_push P ys x all.1 one)
