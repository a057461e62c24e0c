-- A card that is in a deck is in no other.
use Rattle.upd_desk.proofs.Common.{◌≡◌, ℕ, suc, ◌<◌, ◌≤◌, Bool, true, false, not, ◌&&◌, ◌||◌, List, [], ◌∷◌, length, map, Option, Some, None, refl, sym, ap}
use Rattle.upd_desk.proofs.Common.{◌∙◌, subst, arith, nat_tests, filter, CardRef, Place, is_among, CardView, DeckView, LibraryView, place_of, ref_of, IsSound}
use Rattle.upd_desk.proofs.Common.{same_ref, same_ref_is, decks_with, is_asked, decks_few}
use Rattle.std.specs.Prelude.{◌==◌, slice_get}
use Rattle.upd_core.specs.Library.{all_decks}
use Rattle.upd_core.proofs.ApartLemmas.{at_contained}
use Rattle.upd_core.proofs.FoundLemmas.{place_at}
use Rattle.upd_row_store.specs.Asked.{holds_one}
use Rattle.upd_yank.proofs.FindLemmas.{any_at}

-- a deck that holds the card is where it is found
standing_place : (card : CardRef) (l : LibraryView) (k : ℕ) (d : DeckView) → IsSound l → slice_get l.decks k ≡ Some d
    → holds_one (card ∷ []) l.idents d ≡ true → (i : ℕ) × (place_of card l ≡ Some (record { deck = d.ident; index = i }))
standing_place card l k d sound stands holds = of_card (any_at (λ c. is_asked (card ∷ []) (ref_of l.idents c)) d.cards holds)
  where
    named : (i : ℕ) (c : CardView) → slice_get d.cards i ≡ Some c → (b : Bool) → same_ref card (ref_of l.idents c) ≡ b → (b || false) ≡ true
        → (i : ℕ) × (place_of card l ≡ Some (record { deck = d.ident; index = i }))
    named i c at true is asked = (
      i,
      subst (λ r. place_of r l ≡ Some (record { deck = d.ident; index = i })) (sym (same_ref_is card (ref_of l.idents c) is))
          (place_at l d i c sound (at_contained (all_decks l) (suc k) d stands) at),
    )
    named i c at false is asked = absurd (cc)

    of_card : (i : ℕ) × (c : CardView) × (slice_get d.cards i ≡ Some c) × (is_asked (card ∷ []) (ref_of l.idents c) ≡ true)
        → (i : ℕ) × (place_of card l ≡ Some (record { deck = d.ident; index = i }))
    of_card (i, c, at, asked) = named i c at (same_ref card (ref_of l.idents c)) refl asked

pub among_own : (z : ℕ) → is_among (z ∷ []) z ≡ true
among_own z = let same : (z == z) ≡ true = grind (arith, nat_tests) in rw same refl

-- a test that passes less keeps no more
fewer_kept : (p q : DeckView → Bool) (ds : List DeckView) → ((k : ℕ) (d : DeckView) → slice_get ds k ≡ Some d → p d ≡ true → q d ≡ true)
    → length (map (λ d. d.ident) (filter p ds)) ≤ length (filter q ds)
fewer_kept p q [] all = omega arith
fewer_kept p q (d ∷ ds) all = go (p d) (q d) refl refl (all 0 d refl) (fewer_kept p q ds (λ k. all (suc k)))
  where
    go : (a b : Bool) → p d ≡ a → q d ≡ b → (p d ≡ true → q d ≡ true) → length (map (λ d. d.ident) (filter p ds)) ≤ length (filter q ds)
        → length (map (λ d. d.ident) (filter p (d ∷ ds))) ≤ length (filter q (d ∷ ds))
    go true true e f both less = rw (e, f) (omega (arith, less))
    go true false e f both less = let pass = both e in absurd (cc)
    go false true e f both less = rw (e, f) (omega (arith, less))
    go false false e f both less = rw (e, f) less

pub one_holder : (card : CardRef) (l : LibraryView) → IsSound l → length (decks_with (card ∷ []) l) ≤ 1
one_holder card l sound =
    let fewer = fewer_kept (holds_one (card ∷ []) l.idents) (λ d. not (not (is_among (age ∷ []) d.ident))) l.decks there in
    let few = decks_few (age ∷ []) l sound in
    omega (arith, fewer, few)
  where
    deck_at : Option Place → ℕ
    deck_at None = 0
    deck_at (Some p) = p.deck

    age : ℕ
    age = deck_at (place_of card l)

    there : (k : ℕ) (d : DeckView) → slice_get l.decks k ≡ Some d → holds_one (card ∷ []) l.idents d ≡ true
        → not (not (is_among (age ∷ []) d.ident)) ≡ true
    there k d stands holds =
        let same : age ≡ d.ident = ap deck_at (standing_place card l k d sound stands holds).1 in
        subst (λ z. not (not (is_among (age ∷ []) z)) ≡ true) same (ap (λ b. not (not b)) (among_own age))
