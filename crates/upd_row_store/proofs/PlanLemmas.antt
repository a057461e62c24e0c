-- Moves in many decks: what is right of a deck's cards is right of all, and stays so while the cards of other decks move.
use Rattle.std.proofs.Common.{◌≡◌, ℕ, ◌+◌, ◌<◌, ◌≤◌, ◌==◌, Bool, true, false, ◌&&◌, cond, List, [], ◌∷◌, ◌++◌, map, filter, refl, sym, ap, subst, ◌∙◌, arith}
use Rattle.std.proofs.Common.{nat_le}
use Rattle.std.proofs.lemmas.Bool.Decides.{Decides-eqb}
use Rattle.std.specs.List.{AllByRecursion}
use Rattle.upd_records.specs.Rows.{CardRow}
use Rattle.upd_row_store.specs.declared.moves.Move.{Move}
use Rattle.upd_row_store.specs.declared.plans.DeckPlan.{DeckPlan}
use Rattle.upd_row_store.specs.declared.shift.Shift.{Shift}
use Rattle.upd_row_store.specs.Plans.{DecksRise, IsPlan}
use Rattle.upd_row_store.specs.Shifts.{IsRight, is_behind, moved_all}
use Rattle.upd_row_store.proofs.MoveLemmas.{deck_stays, other_stays}
use Rattle.upd_row_store.proofs.ShiftLemmas.{moves_past, not_behind}

module _ (deck from : ℕ) (ms : List Move) (ss : List Shift) where
  -- a row that is not behind is moved by none
  pub right_past : (r : CardRow) → AllByRecursion (λ m. from ≤ m.from) ms → is_behind deck from r ≡ false → IsRight deck from ms ss r
  right_past r low is = let still = not_behind deck from ss r is in record { can = still.0; same = still.1 ∙ sym (moves_past deck from ms r low is) }

  -- what is right of the rows that are behind is right of all
  pub all_right : (rs : List CardRow) → AllByRecursion (λ m. from ≤ m.from) ms → AllByRecursion (IsRight deck from ms ss) (filter (is_behind deck from) rs)
      → AllByRecursion (IsRight deck from ms ss) rs
  all_right [] low h = tt
  all_right (r ∷ rs) low h = go (is_behind deck from r) refl h (all_right rs low)
    where
      go : (b : Bool) → is_behind deck from r ≡ b
          → AllByRecursion (IsRight deck from ms ss) (cond b (r ∷ filter (is_behind deck from) rs) (filter (is_behind deck from) rs))
          → (AllByRecursion (IsRight deck from ms ss) (filter (is_behind deck from) rs) → AllByRecursion (IsRight deck from ms ss) rs)
          → AllByRecursion (IsRight deck from ms ss) (r ∷ rs)
      go true is h rest = (h.0, rest h.1)
      go false is h rest = (right_past r low is, rest h)

  module _ (k : ℕ) (before : k < deck) (moves : List Move) (low : AllByRecursion (λ m. from ≤ m.from) ms) where
    -- moves of another deck leave it right
    row_still : (r : CardRow) → IsRight deck from ms ss r → IsRight deck from ms ss (moved_all k moves r)
    row_still r right = go (r.deck == k) refl
      where
        apart : (b : Bool) → (k == deck) ≡ b → (k == deck) ≡ false
        apart true e = absurd (let same = (Decides-eqb k deck).0 e in omega (arith, before, same))
        apart false e = e

        go : (b : Bool) → (r.deck == k) ≡ b → IsRight deck from ms ss (moved_all k moves r)
        go true e =
            let own : (moved_all k moves r).deck ≡ k = deck_stays k moves r ∙ (Decides-eqb r.deck k).0 e in
            let none : is_behind deck from (moved_all k moves r) ≡ false =
            ap (λ d. (d == deck) && nat_le from (moved_all k moves r).pos) own
            ∙ ap (λ b. b && nat_le from (moved_all k moves r).pos) (apart (k == deck) refl) in
            right_past (moved_all k moves r) low none
        go false e = subst (IsRight deck from ms ss) (sym (other_stays k moves r e)) right

    pub rows_still : (rs : List CardRow) → AllByRecursion (IsRight deck from ms ss) rs → AllByRecursion (IsRight deck from ms ss) (map (moved_all k moves) rs)
    rows_still [] h = tt
    rows_still (r ∷ rs) h = (row_still r h.0, rows_still rs h.1)

-- plans of later decks stay plans
pub plans_still : (k : ℕ) (moves : List Move) (rows : List CardRow) (ps : List DeckPlan) (least : ℕ) → k < least → DecksRise least ps
    → AllByRecursion (IsPlan rows) ps → AllByRecursion (IsPlan (map (moved_all k moves) rows)) ps
plans_still k moves rows [] least low rise h = tt
plans_still k moves rows (p ∷ ps) least low rise h =
    let before : k < p.deck = omega (arith, low, rise.0) in (
      record { right = rows_still p.deck p.from p.moves.items p.shifts.items k before moves h.0.low rows h.0.right; low = h.0.low },
      plans_still k moves rows ps (p.deck + 1) (omega (arith, before)) rise.1 h.1,
    )

pub all_push : {A : Type 0} (P : A → Type 0) (xs : List A) (x : A) → AllByRecursion P xs → P x → AllByRecursion P (xs ++ x ∷ [])
all_push P [] x h is = (is, tt)
all_push P (y ∷ xs) x h is = (h.0, all_push P xs x h.1 is)
