-- Statuses in a part of a library: its cards have those that they have in the whole, and no other card has one.
use Rattle.upd_partial.proofs.Common.{◌≡◌, ℕ, Bool, true, false, not, ◌||◌, if◌then◌else◌, List, [], ◌∷◌, Option, Some, None, refl, sym, ap, ◌∙◌, subst}
use Rattle.upd_partial.proofs.Common.{same_Some, list_any, AllByRecursion, Contains, option_map, CardRef, CountedCardView, counted_cards, Place, CardView}
use Rattle.upd_partial.proofs.Common.{DeckView, LibraryView, all_decks, card_in, place_of, ref_of, part, IsSound, is_active, live_targets, status_of}
use Rattle.upd_partial.proofs.Common.{at_contained, contained_at, place_at, status_at, same_ref, any_at, same_ref_is, all_counted}
use Rattle.std.proofs.Common.{slice_get}
use Rattle.std.specs.Option.{option_and_then}
use Rattle.upd_core.proofs.ApartLemmas.{all_at}
use Rattle.upd_yank.proofs.StateLemmas.{status_there}
use Rattle.upd_partial.proofs.NeedLemmas.{among, not_in}
use Rattle.upd_partial.proofs.PartLemmas.{cards_same, kept_all, place_same}
use Rattle.upd_partial.proofs.PartSoundLemmas.{part_sound}

-- ---- the decks and cards of a part

fails : (b : Bool) → not b ≡ true → b ≡ false
fails true e = absurd (cc)
fails false e = refl

-- a deck of a part is one of the whole that isn't left out
pub deck_of_part : (out : ℕ → Bool) (l : LibraryView) (d : DeckView) → out 0 ≡ false → Contains (all_decks (part out l)) d
    → Contains (all_decks l) d × (out d.ident ≡ false)
deck_of_part out l d yanks is =
    let at = contained_at (all_decks (part out l)) d is in
    let there = among (λ (x : DeckView). not (out x.ident)) (all_decks l) at.0 d (ap (λ ds. slice_get ds at.0) (sym (kept_all out l yanks)) ∙ at.1) in
    (at_contained (all_decks l) there.index d there.found, fails (out d.ident) there.passes)

-- no card of a part has the reference of a card in a deck that is left out
pub other_ref : (out : ℕ → Bool) (l : LibraryView) (r : CardRef) (p : Place) → IsSound l → out 0 ≡ false → place_of r l ≡ Some p → out p.deck ≡ true
    → (d : DeckView) (c : CardView) → Contains (all_decks (part out l)) d → Contains d.cards c → same_ref (ref_of l.idents c) r ≡ false
other_ref out l r p sound yanks at left d c in_decks in_cards = go (same_ref (ref_of l.idents c) r) refl
  where
    go : (b : Bool) → same_ref (ref_of l.idents c) r ≡ b → same_ref (ref_of l.idents c) r ≡ false
    go false e = e
    go true e =
        let there = deck_of_part out l d yanks in_decks in
        let place = contained_at d.cards c in_cards in
        let found : place_of r l ≡ Some (record { deck = d.ident; index = place.0 }) =
        ap (λ x. place_of x l) (sym (same_ref_is (ref_of l.idents c) r e)) ∙ place_at l d place.0 c sound there.0 place.1 in
        let deck : p.deck ≡ d.ident = ap (λ (q : Place). q.deck) (same_Some _ _ (sym at ∙ found)) in
        absurd (let q = sym left ∙ ap out deck ∙ there.1 in cc)

-- ---- the status in a part

-- each card of a part has its status in the whole
same_statuses : (out : ℕ → Bool) (l : LibraryView) → IsSound l → out 0 ≡ false
    → AllByRecursion (λ k. status_of k.card (part out l) ≡ status_of k.card l) (counted_cards (part out l))
same_statuses out l sound yanks =
    all_counted (λ k. status_of k.card (part out l) ≡ status_of k.card l) (part out l)
    (λ d c in_decks in_cards. status_at (part out l) d c (part_sound out l sound) in_decks in_cards
    ∙ sym (status_at l d c sound (deck_of_part out l d yanks in_decks).0 in_cards))

pub status_in_part : (out : ℕ → Bool) (l : LibraryView) (card : CardRef) → IsSound l → out 0 ≡ false
    → status_of card (part out l) ≡ (if list_any (λ k. same_ref k.card card) (counted_cards (part out l)) then status_of card l else None)
status_in_part out l card sound yanks = go (list_any (λ k. same_ref k.card card) (counted_cards (part out l))) refl
  where
    none : (o : Option Bool) → status_of card (part out l) ≡ o → list_any (λ k. same_ref k.card card) (counted_cards (part out l)) ≡ false
        → status_of card (part out l) ≡ None
    none None e f = e
    none (Some s) e f = absurd (let q = sym f ∙ status_there (part out l) card s (part_sound out l sound) e in cc)

    there : (i : ℕ) × (k : CountedCardView) × (slice_get (counted_cards (part out l)) i ≡ Some k) × (same_ref k.card card ≡ true)
        → status_of card (part out l) ≡ status_of card l
    there (i, k, at, is) =
        subst (λ r. status_of r (part out l) ≡ status_of r l) (same_ref_is k.card card is)
        (all_at (λ k. status_of k.card (part out l) ≡ status_of k.card l) (counted_cards (part out l)) i k (same_statuses out l sound yanks) at)

    go : (b : Bool) → list_any (λ k. same_ref k.card card) (counted_cards (part out l)) ≡ b
        → status_of card (part out l) ≡ (if b then status_of card l else None)
    go true e = there (any_at (λ k. same_ref k.card card) (counted_cards (part out l)) e)
    go false e = none (status_of card (part out l)) refl e

-- a status in a part is that in the whole
pub status_in_whole : (out : ℕ → Bool) (l : LibraryView) (card : CardRef) (s : Bool) → IsSound l → out 0 ≡ false
    → status_of card (part out l) ≡ Some s → status_of card l ≡ Some s
status_in_whole out l card s sound yanks e =
    go (list_any (λ k. same_ref k.card card) (counted_cards (part out l))) (sym (status_in_part out l card sound yanks) ∙ e)
  where
    go : (b : Bool) → (if b then status_of card l else None) ≡ Some s → status_of card l ≡ Some s
    go true e = e
    go false e = absurd (cc)

pub none_passes : {A : Type 0} (test : A → Bool) (xs : List A) → AllByRecursion (λ x. test x ≡ false) xs → list_any test xs ≡ false
none_passes test [] none = refl
none_passes test (x ∷ xs) none = λ i. none.0 i || none_passes test xs none.1 i

-- a card in a deck that is left out has no status in the part
pub status_gone : (out : ℕ → Bool) (l : LibraryView) (r : CardRef) (p : Place) → IsSound l → out 0 ≡ false → place_of r l ≡ Some p → out p.deck ≡ true
    → status_of r (part out l) ≡ None
status_gone out l r p sound yanks at left =
    status_in_part out l r sound yanks
    ∙ ap (λ b. if b then status_of r l else None) (none_passes (λ k. same_ref k.card r) (counted_cards (part out l))
    (all_counted (λ k. same_ref k.card r ≡ false) (part out l) (other_ref out l r p sound yanks at left)))

-- a card that is in no such deck has the same status
pub status_kept : (out : ℕ → Bool) (l : LibraryView) (r : CardRef) → IsSound l → out 0 ≡ false
    → ((p : Place) → place_of r l ≡ Some p → out p.deck ≡ false) → status_of r (part out l) ≡ status_of r l
status_kept out l r sound yanks stays = go (place_of r l) refl
  where
    by_place : LibraryView → Option Place → Option Bool
    by_place m o = option_and_then (λ p. option_map (is_active (live_targets m) p.deck) (card_in p m)) o

    same : place_of r (part out l) ≡ place_of r l
    same = place_same out l r yanks (not_in out l r sound stays)

    go : (o : Option Place) → place_of r l ≡ o → status_of r (part out l) ≡ status_of r l
    go None e = ap (by_place (part out l)) (same ∙ e) ∙ sym (ap (by_place l) e)
    go (Some p) e =
        ap (by_place (part out l)) (same ∙ e)
        ∙ ap (λ cards. option_map (is_active (live_targets l) p.deck) (slice_get cards p.index)) (cards_same out p.deck l (stays p e))
        ∙ sym (ap (by_place l) e)
