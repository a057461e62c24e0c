-- Where the rows of a card stand among rows in order of their cards.
use Rattle.upd_row_store.proofs.Common.{◌≡◌, ℕ, ◌-◌, ◌<◌, ◌≤◌, Bool, true, false, List, length, take, get_or, refl, sym, ◌∙◌, arith, AllWithin, filter}
use Rattle.upd_row_store.proofs.Common.{IsPartitionPoint, IsPartitionedBy, is_le, is_lt, card_order, CardRef, same_ref}
use Rattle.std.specs.List.{HoldsAt}
use Rattle.upd_row_store.specs.ByCard.{AreByCard}
use Rattle.upd_row_store.proofs.ActiveLemmas.{ordered_rows}
use Rattle.upd_row_store.proofs.RowLemmas.{left_behind, parted_below, parted_left, rows_between}

-- a test parts a list where it holds of the element before a place and fails at the place
pub parted_at : {A : Type 0} (p : A → Bool) (xs : List A) (i : ℕ) → IsPartitionedBy p xs → i ≤ length xs
    → ((d : A) → 0 < i → p (get_or xs (i - 1) d) ≡ true) → ((d : A) → i < length xs → p (get_or xs i d) ≡ false)
    → IsPartitionPoint (λ x. p x ≡ true) (λ x. p x ≡ false) xs i
parted_at p xs i parted within last first = (
  λ k d low high. parted k (i - 1) d (omega arith) (omega arith) (last d (omega arith)),
  λ k d low high. go k d low high (p (get_or xs k d)) refl,
)
  where
    go : (k : ℕ) (d : _) → i ≤ k → k < length xs → (b : Bool) → p (get_or xs k d) ≡ b → p (get_or xs k d) ≡ false
    go k d low high false e = e
    go k d low high true e = absurd (let hit = parted i k d low high e in let miss = first d (omega arith) in
        let clash : true ≡ false = sym hit ∙ miss in cc)

module _ {A : Type 0} (card : A → CardRef) (c : CardRef) (xs : List A) (up : AreByCard card xs) where
  pub below_parts : IsPartitionedBy (λ x. is_lt (card_order (card x) c)) xs
  below_parts = parted_below card (λ a. 0) c xs (ordered_rows card xs up)

  -- the rows of a card, from where they are no longer below it, as far as they are not above it
  pub rows_side_by_side : (a b : ℕ) → a ≤ length xs → b ≤ length (left_behind card (λ a. 0) xs a)
      → IsPartitionPoint (λ x. is_lt (card_order (card x) c) ≡ true) (λ x. is_lt (card_order (card x) c) ≡ false) xs a
      → AllWithin (λ x. is_le (card_order (card x) c) ≡ true) (left_behind card (λ a. 0) xs a) 0 b
      → (b < length (left_behind card (λ a. 0) xs a) → HoldsAt (λ x. is_le (card_order (card x) c) ≡ false) (left_behind card (λ a. 0) xs a) b)
      → take b (left_behind card (λ a. 0) xs a) ≡ filter (λ x. same_ref c (card x)) xs
  rows_side_by_side a b within bound start front next =
      sym (rows_between card (λ a. 0) c xs a b within bound start
      (parted_at (λ x. is_le (card_order (card x) c)) (left_behind card (λ a. 0) xs a) b
      (parted_left card (λ a. 0) c xs a (ordered_rows card xs up)) bound
      (λ d some. front (b - 1) d (omega arith) (omega arith)) (λ d more. next more d)))
