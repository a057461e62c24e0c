-- Decks that a plain run doesn't need, where it names no yank card: their cards keep their statuses.
use Rattle.upd_partial.proofs.Common.{◌≡◌, ℕ, ◌<◌, Bool, true, false, List, [], ◌∷◌, length, Some, Ok, refl, sym, ap, ◌∙◌, arith, nat_tests, ◌==◌, slice_get}
use Rattle.upd_partial.proofs.Common.{list_any, AllByRecursion, Contains, CardRef, Place, CardView, DeckView, LibraryView, all_decks, place_of, ref_of}
use Rattle.upd_partial.proofs.Common.{IsSound, all_cards, is_active, live_cards, status_of, targets_of, all_of_contained, at_contained, contained_at, in_flat}
use Rattle.upd_partial.proofs.Common.{status_at, refs_stay, LineView, Reached, applied, all_each, run_goes, run_sound, cards_named, is_yank_card, DoesWithout}
use Rattle.upd_partial.proofs.Common.{NamesNone, is_plain, cards_of_item, left_out}
use Rattle.std.proofs.lemmas.Bool.{or_parts}
use Rattle.upd_partial.proofs.AppliedLemmas.{applied_left}
use Rattle.upd_partial.proofs.NeedLemmas.{among}
use Rattle.upd_partial.proofs.StayLemmas.{yanks_stay}

-- ---- runs that name no yank card

pub no_yank_named : (lines : List LineView) (l : LibraryView) → list_any (is_yank_card l) (cards_named lines) ≡ false → NamesNone (λ d. d == 0) lines l
no_yank_named lines l none =
    all_each _ (λ (line : LineView). cards_of_item line.item) lines (each (cards_named lines) none)
  where
    each : (cards : List CardRef) → list_any (is_yank_card l) cards ≡ false
        → AllByRecursion (λ card. (p : Place) → place_of card l ≡ Some p → (p.deck == 0) ≡ false) cards
    each [] none = tt
    each (card ∷ cards) none =
        let parts = or_parts (is_yank_card l card) (list_any (is_yank_card l) cards) none in
        ((λ p at. rw at at parts.0), each cards parts.1)

pub yanks_kept : (lines : List LineView) (l : LibraryView) (reached : Reached) → IsSound l → is_plain lines ≡ true
    → list_any (is_yank_card l) (cards_named lines) ≡ false → applied lines l ≡ Ok reached → reached.library.yanks ≡ l.yanks
yanks_kept lines l reached sound plain none is =
    yanks_stay (λ d. d == 0) lines l reached sound (record { plain = plain; listed = λ z later. young z later; cards = no_yank_named lines l none }) is refl
  where
    young : (z : ℕ) → length l.idents < z → (z == 0) ≡ false
    young z later = grind (arith, nat_tests, later)

-- ---- decks that are left out

-- their cards keep their statuses
pub left_status : (out : ℕ → Bool) (lines : List LineView) (l : LibraryView) (reached : Reached) → IsSound l → DoesWithout out lines l
    → applied lines l ≡ Ok reached → reached.library.yanks ≡ l.yanks → (d : DeckView) (c : CardView) → Contains (left_out out l) d → Contains d.cards c
    → status_of (ref_of l.idents c) reached.library ≡ status_of (ref_of l.idents c) l
left_status out lines l reached sound does is stay d c in_left in_cards =
    let m = reached.library in
    let at = contained_at (left_out out l) d in_left in
    let old = among (λ (x : DeckView). out x.ident) (all_decks l) at.0 d at.1 in
    let new = among (λ (x : DeckView). out x.ident) (all_decks m) at.0 d
    (ap (λ ds. slice_get ds at.0) (applied_left out lines l reached sound does is) ∙ at.1) in
    let place = contained_at d.cards c in_cards in
    let names : ref_of m.idents c ≡ ref_of l.idents c =
    all_of_contained (λ x. ref_of m.idents x ≡ ref_of l.idents x) (all_cards l) c
    (refs_stay l m.idents sound (run_goes lines l reached is) (all_cards l) sound.cards) (in_flat (all_decks l) old.index d place.0 c old.found place.1) in
    ap (λ r. status_of r m) (sym names)
    ∙ status_at m d c (run_sound lines l reached sound is) (at_contained (all_decks m) new.index d new.found) in_cards
    ∙ ap (λ ys. Some (is_active (targets_of (live_cards ys)) d.ident c)) stay
    ∙ sym (status_at l d c sound (at_contained (all_decks l) old.index d old.found) in_cards)
