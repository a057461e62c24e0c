-- A list of cards that may move is right where it has those that the changes move by their first places, and those that they add.
use Rattle.upd_row_store.proofs.Common.{◌≡◌, ℕ, ◌==◌, nat_le, Bool, true, false, not, List, [], ◌∷◌, map, refl, ap, AllByRecursion, list_any, ChangeView}
use Rattle.upd_row_store.proofs.Common.{IdentNew, IdentPurged, CardNew, CardGone, CardsMoved, EntryNew, EntriesGone, TargetNew, TargetsGone, StatusNow}
use Rattle.upd_row_store.proofs.Common.{CountNow, done, CardRow, Rows, same_ref, AllMoveListed}
use Rattle.std.proofs.Common.{ℤ}
use Rattle.std.specs.Prelude.{◌&&◌, ◌||◌, if◌then◌else◌}
use Rattle.std.specs.BTreeMap.{BTreeMap}
use Rattle.upd_records.specs.Changes.{moved_row, shifted}
use Rattle.upd_row_store.specs.Movable.{is_listed, moves_at}
use Rattle.upd_row_store.proofs.SortLemmas.{all_joined, all_kept, weaker}

module _ (movable : BTreeMap (List ℕ) ℕ) where
  -- a card that a change adds is listed
  abbrev pub AddsListed : ChangeView → Type 0
  AddsListed (CardNew card deck p body) = is_listed movable card ≡ true
  AddsListed _ = Unit {0}

  -- a card at whose place one of these changes moves cards is listed
  abbrev pub IsKnown : List ChangeView → CardRow → Type 0
  IsKnown cs r = list_any (λ c. moves_at c r.deck r.pos) cs ≡ true → is_listed movable r.card ≡ true

  later : {b : Bool} (a : Bool) → b ≡ true → (a || b) ≡ true
  later true is = refl
  later false is = is

  known_still : (c : ChangeView) (cs : List ChangeView) (r : CardRow) → IsKnown (c ∷ cs) r → IsKnown cs r
  known_still c cs r known there = known (later (moves_at c r.deck r.pos) there)

  moved_known : (deck from : ℕ) (by : ℤ) (cs : List ChangeView) (rs : List CardRow) → AllByRecursion (IsKnown (CardsMoved deck from by ∷ cs)) rs
      → AllByRecursion (IsKnown cs) (map (moved_row deck from by) rs)
  moved_known deck from by cs [] known = tt
  moved_known deck from by cs (r ∷ rs) known = (go ((r.deck == deck) && nat_le from r.pos) refl, moved_known deck from by cs rs known.1)
    where
      go : (b : Bool) → ((r.deck == deck) && nat_le from r.pos) ≡ b → IsKnown cs (if b then record r { pos = shifted by r.pos } else r)
      go true is there = known.0 (ap (λ b. b || list_any (λ c. moves_at c r.deck r.pos) cs) is)
      go false is there = known_still (CardsMoved deck from by) cs r known.0 there

  -- what is so of all rows before a change is so of all rows after it
  known_next : (c : ChangeView) (cs : List ChangeView) (rows : Rows) → AddsListed c → AllByRecursion (IsKnown (c ∷ cs)) rows.cards
      → AllByRecursion (IsKnown cs) (done c rows).cards
  known_next (CardNew card deck p body) cs rows new known =
      all_joined (IsKnown cs) rows.cards _ (weaker rows.cards (λ r. known_still (CardNew card deck p body) cs r) known) (λ there. new, tt)
  known_next (CardGone card) cs rows new known =
      all_kept (IsKnown cs) (λ r. not (same_ref card r.card)) rows.cards (weaker rows.cards (λ r. known_still (CardGone card) cs r) known)
  known_next (CardsMoved deck from by) cs rows new known = moved_known deck from by cs rows.cards known
  known_next (IdentNew i) cs rows new known = weaker rows.cards (λ r. known_still (IdentNew i) cs r) known
  known_next (IdentPurged age) cs rows new known = weaker rows.cards (λ r. known_still (IdentPurged age) cs r) known
  known_next (EntryNew card ord entry) cs rows new known = weaker rows.cards (λ r. known_still (EntryNew card ord entry) cs r) known
  known_next (EntriesGone card) cs rows new known = weaker rows.cards (λ r. known_still (EntriesGone card) cs r) known
  known_next (TargetNew card ord target) cs rows new known = weaker rows.cards (λ r. known_still (TargetNew card ord target) cs r) known
  known_next (TargetsGone card targets) cs rows new known = weaker rows.cards (λ r. known_still (TargetsGone card targets) cs r) known
  known_next (StatusNow card active) cs rows new known = weaker rows.cards (λ r. known_still (StatusNow card active) cs r) known
  known_next (CountNow target n) cs rows new known = weaker rows.cards (λ r. known_still (CountNow target n) cs r) known

  pub all_listed : (cs : List ChangeView) (rows : Rows) → AllByRecursion AddsListed cs → AllByRecursion (IsKnown cs) rows.cards
      → AllMoveListed movable cs rows
  all_listed [] rows new known = tt
  all_listed (c ∷ cs) rows new known = (
    weaker rows.cards (λ r known there. known (ap (λ b. b || list_any (λ c. moves_at c r.deck r.pos) cs) there)) known,
    all_listed cs (done c rows) new.1 (known_next c cs rows new.0 known),
  )
