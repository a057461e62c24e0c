-- Shifts that are in order move each row once, and as moves do where the one that covers it does.
use Rattle.std.proofs.Common.{◌≡◌, ℕ, zero, suc, ◌<◌, ◌≤◌, ◌==◌, nat_le, nat_lt, Bool, true, false, ◌&&◌, if◌then◌else◌, cond, List, [], ◌∷◌, Option, Some}
use Rattle.std.proofs.Common.{refl, sym, ap, ap₂, subst, ◌∙◌, arith, slice_get, bytes_eq}
use Rattle.std.proofs.lemmas.Bool.{and_parts}
use Rattle.std.proofs.lemmas.Bool.Decides.{nat_tests}
use Rattle.std.proofs.lemmas.Cmp.{nat_cmp_total, nat_list_cmp_total, on_total, then_total}
use Rattle.std.proofs.lemmas.Map.Lookups.{exact_bytes}
use Rattle.std.proofs.lemmas.Map.Text.{is_eq-slice_cmp}
use Rattle.std.specs.Cmp.{IsTotalOrder, tied_itself}
use Rattle.std.specs.Cmp.Lexicographic.{slice_cmp}
use Rattle.std.specs.List.{AllByRecursion}
use Rattle.std.specs.Ordering.{is_eq, nat_cmp, ordering_then}
use Rattle.std.specs.declared.cmp.Ordering.{Ordering}
use Rattle.std.specs.declared.cmp.Ordering.TheVariants.{Less, Equal, Greater}
use Rattle.upd_text.specs.Order.{by_name}
use Rattle.upd_text.specs.declared.card_ref.CardRef.{CardRef}
use Rattle.upd_records.specs.Changes.{moved_row, shifted}
use Rattle.upd_records.specs.Fits.{CanMove}
use Rattle.upd_records.specs.Rows.{CardRow}
use Rattle.upd_row_store.specs.declared.moves.Move.{Move}
use Rattle.upd_row_store.specs.declared.shift.Shift.{Shift}
use Rattle.upd_row_store.specs.Shifts.{AreApart, CanShiftAll, IsChain, IsRight, covers_by, first_of, is_behind, last_of, moved_all, moved_pos, shifted_all}
use Rattle.upd_row_store.specs.Shifts.{shifted_row}

-- ---- lists

pub all_weaker : {A : Type 0} {P : A → Type 0} (Q : A → Type 0) → ((x : A) → P x → Q x) → (xs : List A) → AllByRecursion P xs → AllByRecursion Q xs
all_weaker Q f [] h = tt
all_weaker Q f (x ∷ xs) h = (f x h.0, all_weaker Q f xs h.1)

all_at : {A : Type 0} (P : A → Type 0) (xs : List A) (k : ℕ) (x : A) → AllByRecursion P xs → slice_get xs k ≡ Some x → P x
all_at P [] k x h at = absurd (cc)
all_at P (y ∷ ys) zero x h at = let is : y ≡ x = cc in subst P is h.0
all_at P (y ∷ ys) (suc k) x h at = all_at P ys k x h.1 at

-- ---- the order of cards

refs_total : IsTotalOrder by_name
refs_total = then_total (on_total (λ c. c.name) nat_list_cmp_total) (on_total (λ c. c.number) nat_cmp_total)

less_number : (x y : ℕ) → nat_cmp x y ≡ Less → x < y
less_number x y e = go (nat_lt x y) (x == y) refl e
  where
    go : (b c : Bool) → nat_lt x y ≡ b → cond b Less (cond c Equal Greater) ≡ Less → x < y
    go true c is e = grind (arith, nat_tests)
    go false true is e = absurd (cc)
    go false false is e = absurd (cc)

number_less : (x y : ℕ) → x < y → nat_cmp x y ≡ Less
number_less x y low = let is : nat_lt x y ≡ true = grind (arith, nat_tests) in ap (λ b. cond b Less (cond (x == y) Equal Greater)) is

same_name : (a b : List ℕ) → bytes_eq a b ≡ true → a ≡ b
same_name a b same = exact_bytes a b (go (slice_cmp nat_cmp a b) (is_eq-slice_cmp a b ∙ same))
  where
    go : (o : Ordering) → is_eq o ≡ true → o ≡ Equal
    go Less e = absurd (cc)
    go Equal e = refl
    go Greater e = absurd (cc)

clash : (a b n : ℕ) → a < b → nat_le n a ≡ true → nat_le b n ≡ true → true ≡ false
clash a b n less low high = grind (arith, nat_tests)

-- no card is of two shifts in order
apart_cards : (s t : Shift) (card : CardRef) → by_name (last_of s) (first_of t) ≡ Less → covers_by s card ≡ true → covers_by t card ≡ false
apart_cards s t card before here = go (covers_by t card) refl
  where
    go : (b : Bool) → covers_by t card ≡ b → b ≡ false
    go false is = refl
    go true is =
        let one = and_parts _ _ here in
        let two = and_parts _ _ is in
        let low = (and_parts _ _ one.1).1 in
        let high = (and_parts _ _ two.1).0 in
        let name : s.name ≡ t.name = same_name s.name card.name one.0 ∙ sym (same_name t.name card.name two.0) in
        let tied : slice_cmp nat_cmp s.name t.name ≡ Equal = subst (λ n. slice_cmp nat_cmp s.name n ≡ Equal) name (tied_itself nat_list_cmp_total s.name) in
        let number : nat_cmp s.last t.first ≡ Less = sym (ap (λ o. ordering_then o (nat_cmp s.last t.first)) tied) ∙ before in
        clash s.last t.first card.number (less_number s.last t.first number) low high

-- ---- shifts in order

-- what is before the first card of a shift, or is that card, is before what its last card is before
from_first : (t : Shift) (card : CardRef) → t.first ≤ t.last → by_name (last_of t) card ≡ Less → by_name (first_of t) card ≡ Less
from_first t card up less = go (nat_lt t.first t.last) refl
  where
    tied : slice_cmp nat_cmp t.name t.name ≡ Equal
    tied = tied_itself nat_list_cmp_total t.name

    go : (b : Bool) → nat_lt t.first t.last ≡ b → by_name (first_of t) card ≡ Less
    go true is =
        let low : t.first < t.last = grind (arith, nat_tests) in
        let first : by_name (first_of t) (last_of t) ≡ Less = ap (λ o. ordering_then o (nat_cmp t.first t.last)) tied ∙ number_less t.first t.last low in
        refs_total.trans (first_of t) (last_of t) card first less
    go false is =
        let same : t.last ≡ t.first = grind (arith, nat_tests) in
        subst (λ n. by_name (record { name = t.name; number = n }) card ≡ Less) same less

above_all : (card : CardRef) (ss : List Shift) → IsChain (Some card) ss → AllByRecursion (λ t. by_name card (first_of t) ≡ Less) ss
above_all card [] h = tt
above_all card (t ∷ ss) h = (
  h.0.0,
  all_weaker (λ u. by_name card (first_of u) ≡ Less)
      (λ u less. refs_total.trans card (first_of t) (first_of u) h.0.0 (from_first t (first_of u) h.0.1 less)) ss (above_all (last_of t) ss h.1),
)

pub chain_apart : (last : Option CardRef) (ss : List Shift) → IsChain last ss → AreApart ss
chain_apart last [] h = tt
chain_apart last (s ∷ ss) h = (above_all (last_of s) ss h.1, chain_apart (Some (last_of s)) ss h.1)

-- ---- rows

module _ (deck from : ℕ) where
  same_card : (s : Shift) (r : CardRow) → (moved_row deck from s.by r).card ≡ r.card
  same_card s r = go ((r.deck == deck) && nat_le from r.pos)
    where
      go : (b : Bool) → (if b then record r { pos = shifted s.by r.pos } else r).card ≡ r.card
      go true = refl
      go false = refl

  untouched : (s : Shift) (r : CardRow) → covers_by s r.card ≡ false → shifted_row deck from s r ≡ r
  untouched s r none = ap (λ b. if b then moved_row deck from s.by r else r) none

  uncovered : (ss : List Shift) (r : CardRow) → AllByRecursion (λ s. covers_by s r.card ≡ false) ss
      → CanShiftAll deck from ss r × (shifted_all deck from ss r ≡ r)
  uncovered [] r none = (tt, refl)
  uncovered (s ∷ ss) r none =
      let same = untouched s r none.0 in
      let rest = uncovered ss r none.1 in (
        (λ here behind. absurd (let clash : true ≡ false = sym here ∙ none.0 in cc), subst (CanShiftAll deck from ss) (sym same) rest.0),
        ap (shifted_all deck from ss) same ∙ rest.1,
      )

  found : (ss : List Shift) (k : ℕ) (s : Shift) (r : CardRow) → slice_get ss k ≡ Some s → AreApart ss → covers_by s r.card ≡ true → CanMove s.by r.pos
      → CanShiftAll deck from ss r × (shifted_all deck from ss r ≡ moved_row deck from s.by r)
  found [] k s r at apart here can = absurd (cc)
  found (t ∷ ss) zero s r at apart here can =
      let is : t ≡ s = cc in
      let row : shifted_row deck from t r ≡ moved_row deck from s.by r = ap (λ u. shifted_row deck from u r) is
      ∙ ap (λ b. if b then moved_row deck from s.by r else r) here in
      let others = all_weaker (λ u. covers_by u (moved_row deck from s.by r).card ≡ false)
      (λ u before. ap (covers_by u) (same_card s r) ∙ apart_cards s u r.card (subst
      (λ v. by_name (last_of v) (first_of u) ≡ Less) is before) here) ss apart.0 in
      let rest = uncovered ss (moved_row deck from s.by r) others in (
        (λ c behind. subst (λ (u : Shift). CanMove u.by r.pos) (sym is) can, subst (CanShiftAll deck from ss) (sym row) rest.0),
        ap (shifted_all deck from ss) row ∙ rest.1,
      )
  found (t ∷ ss) (suc k) s r at apart here can =
      let before = all_at (λ u. by_name (last_of t) (first_of u) ≡ Less) ss k s apart.0 at in
      let none = other (covers_by t r.card) refl before in
      let same = untouched t r none in
      let rest = found ss k s r at apart.1 here can in (
        (λ c behind. absurd (let clash : true ≡ false = sym c ∙ none in cc), subst (CanShiftAll deck from ss) (sym same) rest.0),
        ap (shifted_all deck from ss) same ∙ rest.1,
      )
    where
      other : (b : Bool) → covers_by t r.card ≡ b → by_name (last_of t) (first_of s) ≡ Less → b ≡ false
      other false is before = refl
      other true is before = absurd (let clash : true ≡ false = sym here ∙ apart_cards t s r.card before is in cc)

  pub all_placed : (ms : List Move) (r : CardRow) → (r.deck == deck) ≡ true → moved_all deck ms r ≡ record r { pos = moved_pos ms r.pos }
  all_placed [] r here = refl
  all_placed (m ∷ ms) r here =
      go (r.deck == deck) (nat_le m.from r.pos) here (all_placed ms (record r { pos = shifted m.by r.pos }) here) (all_placed ms r here)
    where
      go : (a b : Bool) → a ≡ true
          → moved_all deck ms (record r { pos = shifted m.by r.pos }) ≡ record r { pos = moved_pos ms (shifted m.by r.pos) }
          → moved_all deck ms r ≡ record r { pos = moved_pos ms r.pos }
          → moved_all deck ms (if a && b then record r { pos = shifted m.by r.pos } else r)
          ≡ record r { pos = moved_pos ms (if b then shifted m.by r.pos else r.pos) }
      go true true is moved still = moved
      go true false is moved still = still
      go false b is moved still = absurd (cc)

  pub right_by : (ms : List Move) (ss : List Shift) (k : ℕ) (s : Shift) (r : CardRow) → slice_get ss k ≡ Some s → AreApart ss → (r.deck == deck) ≡ true
      → nat_le from r.pos ≡ true → covers_by s r.card ≡ true → CanMove s.by r.pos → shifted s.by r.pos ≡ moved_pos ms r.pos → IsRight deck from ms ss r
  right_by ms ss k s r at apart here behind covers can same =
      let f = found ss k s r at apart covers can in
      let moved : moved_row deck from s.by r ≡ record r { pos = shifted s.by r.pos } =
      ap₂ (λ a b. if a && b then record r { pos = shifted s.by r.pos } else r) here behind in
      record { can = f.0; same = f.1 ∙ moved ∙ ap (λ p. record r { pos = p }) same ∙ sym (all_placed ms r here) }

  -- a row that is not behind stays, whatever moves behind it
  pub not_behind : (ss : List Shift) (r : CardRow) → is_behind deck from r ≡ false → CanShiftAll deck from ss r × (shifted_all deck from ss r ≡ r)
  not_behind [] r none = (tt, refl)
  not_behind (s ∷ ss) r none =
      let still : moved_row deck from s.by r ≡ r = ap (λ b. if b then record r { pos = shifted s.by r.pos } else r) none in
      let same = stays s (covers_by s r.card) still in
      let rest = not_behind ss r none in (
        (λ here behind. absurd (let clash : true ≡ false = sym behind ∙ none in cc), subst (CanShiftAll deck from ss) (sym same) rest.0),
        ap (shifted_all deck from ss) same ∙ rest.1,
      )
    where
      stays : (s : Shift) (b : Bool) → moved_row deck from s.by r ≡ r → (if b then moved_row deck from s.by r else r) ≡ r
      stays s true still = still
      stays s false still = refl

  pub moves_past : (ms : List Move) (r : CardRow) → AllByRecursion (λ m. from ≤ m.from) ms → is_behind deck from r ≡ false → moved_all deck ms r ≡ r
  moves_past [] r low none = refl
  moves_past (m ∷ ms) r low none =
      ap (λ b. moved_all deck ms (if b then record r { pos = shifted m.by r.pos } else r)) (out (r.deck == deck) none) ∙ moves_past ms r low.1 none
    where
      out : (a : Bool) → (a && nat_le from r.pos) ≡ false → (a && nat_le m.from r.pos) ≡ false
      out true none = let far : from ≤ m.from = low.0 in grind (arith, nat_tests)
      out false none = refl
