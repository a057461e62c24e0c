-- One plain line on a part of a library: what it does to the part is what it does to the whole.
use Rattle.upd_partial.proofs.Common.{◌≡◌, ℕ, ◌+◌, ◌-◌, ◌<◌, Bool, true, false, not, ◌&&◌, ◌||◌, List, [], ◌∷◌, length, Some, Result, Ok, Err, refl, ap, ◌∙◌}
use Rattle.upd_partial.proofs.Common.{subst, arith, insert, AllByRecursion, IfOk, FaultKind, ◌>>=◌, Place, entered_range, introduced, next_age, new_card}
use Rattle.upd_partial.proofs.Common.{DeckView, is_within_limits, ItemView, LineView, State, is_purge, is_yank, Edit, Stays, MovesAfter, MovesBefore, NewSet}
use Rattle.upd_partial.proofs.Common.{NewDeck, AddsAtEnd, AddsInside, Switches, carried, step, part, cards_of_item, is_plain_item, left_out}
use Rattle.upd_text.specs.declared.fault.FaultKind.TheVariants as fault
use Rattle.upd_text.specs.Outcome.{refuse_if}
use Rattle.upd_deck.specs.Items.{Insert, Before, Delete, Restore}
use Rattle.upd_apply.specs.declared.state.InsertPoint.{InsertPoint}
use Rattle.upd_apply.specs.declared.state.InsertPoint.TheVariants.{Nowhere, End, Inside}
use Rattle.upd_apply.specs.LineEdits.{AddsYank, Purges, PurgesIn, adds, after_card}
use Rattle.upd_apply.specs.Step.{carried_out, judged}
use Rattle.upd_apply.proofs.EditLemmas.{Fits, IsMove, judged_fits}
use Rattle.upd_partial.proofs.PartLemmas.{IsNotIn, cards_same, deck_kept, limits_same, place_same, with_cards_same, with_deck_same}

-- the state with a part of its library
abbrev pub parted : (ℕ → Bool) → State → State
parted out s = record s { library = part out s.library }

abbrev pub in_part : {E : Type 0} → (ℕ → Bool) → Result State E → Result State E
in_part out (Ok s) = Ok (parted out s)
in_part out (Err e) = Err e

-- the deck that text goes to isn't left out
abbrev pub SpotStays : (ℕ → Bool) → InsertPoint → Type 0
SpotStays out Nowhere = Unit {0}
SpotStays out (End d next) = out d ≡ false
SpotStays out (Inside d after) = out d ≡ false

-- what a line needs to know of what is left out
pub record Leaves (out : ℕ → Bool) (s : State) : Type 0 where
  pub fresh : (z : ℕ) → length s.library.idents < z → out z ≡ false
  pub insert_point : SpotStays out s.insert_point

-- ---- the decks of an edit

-- an edit neither yanks nor purges, and the decks that it changes or goes to aren't left out
abbrev pub Misses : (ℕ → Bool) → State → Edit → Type 0
Misses out s Stays = Unit {0}
Misses out s (MovesAfter p) = out p.deck ≡ false
Misses out s (MovesBefore p) = out p.deck ≡ false
Misses out s (NewSet name) = Unit {0}
Misses out s (NewDeck name sort noprop text) = out (next_age s.library) ≡ false
Misses out s (AddsAtEnd d next text) = out d ≡ false
Misses out s (AddsInside d after c text) = out d ≡ false
Misses out s (Switches active c p q) = (out p.deck ≡ false) × (out q.deck ≡ false)
Misses out s _ = ⊥

no_yank : (a b : Bool) → not (a || b) ≡ true → a ≡ true → ⊥
no_yank true b plain is = absurd (cc)
no_yank false b plain is = absurd (cc)

no_purge : (a b : Bool) → not (a || b) ≡ true → b ≡ true → ⊥
no_purge true b plain is = absurd (cc)
no_purge false b plain is = let bad = rw is at plain in absurd (cc)

move_misses : (out : ℕ → Bool) (item : ItemView) (s : State) (p : Place) → IsMove item s p
    → AllByRecursion (IsNotIn (left_out out s.library) s.library) (cards_of_item item) → out p.deck ≡ false
move_misses out item s p move lacks =
    let named = subst (AllByRecursion (IsNotIn (left_out out s.library) s.library)) move.named lacks in
    deck_kept out s.library move.card p named.0 move.at

pub misses : (out : ℕ → Bool) (item : ItemView) (text : List ℕ) (s : State) (e : Edit) → Fits item text s e → Leaves out s → is_plain_item item ≡ true
    → AllByRecursion (IsNotIn (left_out out s.library) s.library) (cards_of_item item) → Misses out s e
misses out item text s (MovesAfter p) fits leaves plain lacks = move_misses out item s p fits lacks
misses out item text s (MovesBefore p) fits leaves plain lacks = move_misses out item s p fits.0 lacks
misses out item text s (NewDeck name sort noprop first) fits leaves plain lacks = leaves.fresh (next_age s.library) (omega arith)
misses out item text s (AddsAtEnd d next added) fits leaves plain lacks = subst (SpotStays out) fits.0 leaves.insert_point
misses out item text s (AddsInside d after c added) fits leaves plain lacks = subst (SpotStays out) fits.point leaves.insert_point
misses out item text s (Switches active c p q) fits leaves plain lacks =
    let named = subst (AllByRecursion (IsNotIn (left_out out s.library) s.library)) fits.named lacks in
    (deck_kept out s.library fits.first p named.0 fits.from, deck_kept out s.library fits.last q named.1.0 fits.to)
misses out item text s (AddsYank c added found) fits leaves plain lacks = no_yank (is_yank item) (is_purge item) plain fits.yanks
misses out item text s (Purges gone) fits leaves plain lacks = no_purge (is_yank item) (is_purge item) plain fits
misses out item text s (PurgesIn ages) fits leaves plain lacks = no_purge (is_yank item) (is_purge item) plain fits.0
misses out item text s _ fits leaves plain lacks = tt

-- ---- lines

-- what a line is judged to be depends only on the directory and the places of the cards that it names
judged_same : (out : ℕ → Bool) (item : ItemView) (text : List ℕ) (s : State) → out 0 ≡ false
    → AllByRecursion (IsNotIn (left_out out s.library) s.library) (cards_of_item item) → judged item text (parted out s) ≡ judged item text s
judged_same out (Insert card) text s yanks lacks = rw (place_same out s.library card yanks lacks.0) refl
judged_same out (Before card) text s yanks lacks = rw (place_same out s.library card yanks lacks.0) refl
judged_same out (Delete first last) text s yanks lacks =
    rw (place_same out s.library first yanks lacks.0, place_same out s.library last yanks lacks.1.0) refl
judged_same out (Restore first last) text s yanks lacks =
    rw (place_same out s.library first yanks lacks.0, place_same out s.library last yanks lacks.1.0) refl
judged_same out _ text s yanks lacks = refl

edit_same : (out : ℕ → Bool) (s : State) (e : Edit) → Misses out s e → carried e (parted out s) ≡ parted out (carried e s)
edit_same out s (MovesAfter p) stays = λ i. record {
  library = part out s.library;
  current_set = s.current_set;
  insert_point = Inside p.deck (length (cards_same out p.deck s.library stays i) - (p.index + 1));
}
edit_same out s (MovesBefore p) stays = λ i. record {
  library = part out s.library;
  current_set = s.current_set;
  insert_point = Inside p.deck (length (cards_same out p.deck s.library stays i) - (p.index + 1) + 1);
}
edit_same out s (NewDeck name sort noprop text) stays =
    let z = next_age s.library in
    let d : DeckView = record { ident = z; cards = new_card z 1 text [] ∷ [] } in
    let same = with_deck_same out d (introduced name sort noprop s.library) stays in
    λ i. record { library = same i; current_set = s.current_set; insert_point = End z 2 }
edit_same out s (AddsAtEnd d next text) stays =
    let same = with_cards_same out d (λ cards. insert cards (length cards - 0) (new_card d next text [])) s.library stays in
    λ i. record { library = same i; current_set = s.current_set; insert_point = End d (next + 1) }
edit_same out s (AddsInside d after c text) stays =
    let same = with_cards_same out d (λ cards. insert cards (length cards - after) (new_card c.ident c.next text [])) s.library stays in
    λ i. record { library = same i; current_set = Some (after_card c); insert_point = s.insert_point }
edit_same out s (Switches active c p q) stays =
    let same = with_cards_same out p.deck (entered_range p.index q.index (record { ident = c.ident; active = active })) s.library stays.0 in
    λ i. record {
      library = same i;
      current_set = s.current_set;
      insert_point = Inside q.deck (length (cards_same out q.deck s.library stays.1 i) - (q.index + 1));
    }
edit_same out s Stays stays = refl
edit_same out s (NewSet name) stays = refl
edit_same out s _ stays = absurd stays

-- a part passes the limits where the whole does
carried_same : (out : ℕ → Bool) (s : State) (e : Edit) → Misses out s e → carried_out (Ok e) (parted out s) ≡ in_part out (carried_out (Ok e) s)
carried_same out s e stays =
    ap within (edit_same out s e stays)
    ∙ ap (λ b. refuse_if (adds e && not b) fault.Full >>= (λ _. Ok (parted out (carried e s)))) (limits_same out (carried e s).library)
    ∙ go (adds e && not (is_within_limits (carried e s).library))
  where
    within : State → Result State FaultKind
    within t = refuse_if (adds e && not (is_within_limits t.library)) fault.Full >>= (λ _. Ok t)

    go : (b : Bool) → refuse_if b fault.Full >>= (λ _. Ok (parted out (carried e s))) ≡ in_part out (refuse_if b fault.Full >>= (λ _. Ok (carried e s)))
    go true = refl
    go false = refl

pub step_same : (out : ℕ → Bool) (line : LineView) (s : State) → out 0 ≡ false → Leaves out s → is_plain_item line.item ≡ true
    → AllByRecursion (IsNotIn (left_out out s.library) s.library) (cards_of_item line.item) → step line (parted out s) ≡ in_part out (step line s)
step_same out line s yanks leaves plain lacks =
    ap (λ r. carried_out r (parted out s)) (judged_same out line.item line.text s yanks lacks)
    ∙ go (judged line.item line.text s) (judged_fits line.item line.text s)
  where
    go : (r : Result Edit FaultKind) → IfOk r (Fits line.item line.text s) → carried_out r (parted out s) ≡ in_part out (carried_out r s)
    go (Ok e) fits = carried_same out s e (misses out line.item line.text s e fits leaves plain lacks)
    go (Err f) fits = refl
