-- The decks that have the cards which a run names are all that it needs.
use Rattle.upd_partial.proofs.Common.{◌≡◌, ℕ, Bool, true, false, not, ◌&&◌, List, [], ◌∷◌, map, Option, None, Some, refl, sym, ◌∙◌, subst, arith, nat_tests}
use Rattle.upd_partial.proofs.Common.{◌==◌, nat_le, slice_get, filter, find, list_any, AllByRecursion, option_map_or, CardRef, Ident, Place, is_among}
use Rattle.upd_partial.proofs.Common.{CardView, DeckView, LibraryView, card_in, cards_of, is_deck, place_of, ref_of, IsSound, all_by_index, card_of_place}
use Rattle.upd_partial.proofs.Common.{same_ref, any_of, any_at, LineView, all_each, all_weaker, same_number, cards_named, is_yank_card, NamesNone}
use Rattle.upd_partial.proofs.Common.{cards_of_item, is_left_out}
use Rattle.std.specs.Prelude.{length}
use Rattle.upd_records.proofs.EqualLemmas.{same_ref_own}
use Rattle.upd_row_store.specs.Asked.{are_in_yanks, decks_with, holds_one, is_asked}

-- ---- a card that is asked for is in a deck

-- these decks have one with a serial
abbrev Tells : ℕ → List DeckView → Type 0
Tells z ds = is_among (map (λ d. d.ident) ds) z ≡ true

-- the deck with a serial that has a card which is asked for is among those returned
deck_changes : (cards : List CardRef) (idents : List Ident) (ds : List DeckView) (z k : ℕ) (c : CardView)
    → slice_get (option_map_or (λ (d : DeckView). d.cards) (find (is_deck z) ds) []) k ≡ Some c → is_asked cards (ref_of idents c) ≡ true
    → Tells z (filter (holds_one cards idents) ds)
deck_changes cards idents [] z k c e asked = absurd (cc)
deck_changes cards idents (d ∷ ds) z k c e asked = go (d.ident == z) refl (holds_one cards idents d) refl (λ e. deck_changes cards idents ds z k c e asked)
  where
    here : (d.ident == z) ≡ true → holds_one cards idents d ≡ true
    here own = any_of (λ c. is_asked cards (ref_of idents c)) d.cards k c (rw own at e) asked

    go : (own : Bool) → (d.ident == z) ≡ own → (holds : Bool) → holds_one cards idents d ≡ holds
        → (slice_get (option_map_or (λ (d : DeckView). d.cards) (find (is_deck z) ds) []) k ≡ Some c → Tells z (filter (holds_one cards idents) ds))
        → Tells z (filter (holds_one cards idents) (d ∷ ds))
    go true own true holds later = rw (holds, own) refl
    go true own false holds later = absurd (let clash = sym (here own) ∙ holds in cc)
    go false other true holds later = let rest = later (rw other at e) in rw (holds, other) rest
    go false other false holds later = let rest = later (rw other at e) in rw holds rest

-- a card that is asked for is asked for by its own reference
asked_own : (cards : List CardRef) (k : ℕ) (card : CardRef) → slice_get cards k ≡ Some card → is_asked cards card ≡ true
asked_own cards k card e = any_of (λ c. same_ref c card) cards k card e (same_ref_own card)

-- the deck of a card that is asked for is `YANK$$$`, or among those returned
pub row_changes_or_yank : (cards : List CardRef) (l : LibraryView) (card : CardRef) (p : Place) → IsSound l → is_asked cards card ≡ true
    → place_of card l ≡ Some p → is_left_out (decks_with cards l) l p.deck ≡ false
row_changes_or_yank cards l card p sound asked at = go (0 == p.deck) refl (p.deck == 0) refl
  where
    found : (c : CardView) × (card_in p l ≡ Some c) × (ref_of l.idents c ≡ card)
    found = card_of_place l card p sound at

    among : (0 == p.deck) ≡ false → is_among (decks_with cards l) p.deck ≡ true
    among other = by found
      where
        by : (c : CardView) × (card_in p l ≡ Some c) × (ref_of l.idents c ≡ card) → is_among (decks_with cards l) p.deck ≡ true
        by (c, stands, is) = deck_changes cards l.idents l.decks p.deck p.index c (rw other at stands) (subst (λ r. is_asked cards r ≡ true) (sym is) asked)

    end : (a b : Bool) → (a && b && not true) ≡ false
    end true true = refl
    end true false = refl
    end false b = refl

    go : (x : Bool) → (0 == p.deck) ≡ x → (y : Bool) → (p.deck == 0) ≡ y → is_left_out (decks_with cards l) l p.deck ≡ false
    go x e true f = rw f refl
    go true e false f = absurd (let same : p.deck ≡ 0 = sym (same_number 0 p.deck e) in let bad : (p.deck == 0) ≡ true = grind (arith, nat_tests) in cc)
    go false e false f = let row_changes = among e in rw row_changes (end (not (p.deck == 0)) (nat_le p.deck (length l.idents)))

-- no card that is asked for is a yank card where `YANK$$$` has none of them
pub none_yank : (cards : List CardRef) (l : LibraryView) → IsSound l → are_in_yanks cards l ≡ false → list_any (is_yank_card l) cards ≡ false
none_yank cards l sound none = go (list_any (is_yank_card l) cards) refl
  where
    held : (p : Place) (c : CardView) (card : CardRef) (k : ℕ) → slice_get cards k ≡ Some card → p.deck ≡ 0 → card_in p l ≡ Some c
        → ref_of l.idents c ≡ card → are_in_yanks cards l ≡ true
    held p c card k named zero at is =
        any_of (λ c. is_asked cards (ref_of l.idents c)) l.yanks p.index c (subst (λ d. slice_get (cards_of d l) p.index ≡ Some c) zero at)
        (subst (λ r. is_asked cards r ≡ true) (sym is) (asked_own cards k card named))

    placed : (card : CardRef) (k : ℕ) → slice_get cards k ≡ Some card → (o : Option Place) → place_of card l ≡ o
        → option_map_or (λ (p : Place). p.deck == 0) o false ≡ true → are_in_yanks cards l ≡ true
    placed card k named None at some = absurd (cc)
    placed card k named (Some p) at some = by (card_of_place l card p sound at)
      where
        by : (c : CardView) × (card_in p l ≡ Some c) × (ref_of l.idents c ≡ card) → are_in_yanks cards l ≡ true
        by (c, stands, is) = held p c card k named (same_number p.deck 0 some) stands is

    named : (k : ℕ) × (card : CardRef) × (slice_get cards k ≡ Some card) × (is_yank_card l card ≡ true) → are_in_yanks cards l ≡ true
    named (k, card, at, some) = placed card k at (place_of card l) refl some

    go : (b : Bool) → list_any (is_yank_card l) cards ≡ b → b ≡ false
    go false e = refl
    go true e = absurd (let clash = sym (named (any_at (is_yank_card l) cards e)) ∙ none in cc)

-- a run that names cards doesn't need the decks that have none of them
pub others_unnamed : (lines : List LineView) (l : LibraryView) → IsSound l → NamesNone (is_left_out (decks_with (cards_named lines) l) l) lines l
others_unnamed lines l sound = all_weaker _ _ lines (λ line all. all_weaker _ _ (cards_of_item line.item) unnamed all) asked
  where
    cards : List CardRef
    cards = cards_named lines

    asked : AllByRecursion (λ line. AllByRecursion (λ card. is_asked cards card ≡ true) (cards_of_item line.item)) lines
    asked = all_each (λ card. is_asked cards card ≡ true) (λ (line : LineView). cards_of_item line.item) lines
        (all_by_index cards (λ k card. asked_own cards k card))

    unnamed : (card : CardRef) → is_asked cards card ≡ true → (p : Place) → place_of card l ≡ Some p → is_left_out (decks_with cards l) l p.deck ≡ false
    unnamed card is p at = row_changes_or_yank cards l card p sound is at

-- ---- only one card

-- its deck is among those that have it, or is `YANK$$$`
pub card_kept : (card : CardRef) (l : LibraryView) → IsSound l → (p : Place) → place_of card l ≡ Some p
    → is_left_out (decks_with (card ∷ []) l) l p.deck ≡ false
card_kept card l sound p at = row_changes_or_yank (card ∷ []) l card p sound (asked_own (card ∷ []) 0 card refl) at
