-- Which decks a run needs, in a sound library.
use Rattle.upd_partial.proofs.Common.{◌≡◌, ℕ, ◌+◌, ◌<◌, ◌≤◌, Bool, true, false, not, cond, ◌&&◌, List, [], ◌∷◌, length, suc, zero, Option, Some, None, refl}
use Rattle.upd_partial.proofs.Common.{sym, ap, arith, nat_tests, ◌==◌, nat_le, slice_get, filter, AllByRecursion, CardRef, Place, is_among, index_from}
use Rattle.upd_partial.proofs.Common.{CardView, DeckView, LibraryView, all_decks, is_card, place_in, place_of, IsOfHeld, IsSound, LineView, cards_of_decks}
use Rattle.upd_partial.proofs.Common.{entries_of_decks, part, part_of, all_each, all_filter, all_weaker, and_left, and_right, same_number, NamesNone}
use Rattle.upd_partial.proofs.Common.{cards_of_item, is_left_out, left_out}
use Rattle.upd_core.specs.Sound.{is_held_deck}
use Rattle.upd_core.proofs.FoundLemmas.{card_place, place_found}
use Rattle.upd_laws.proofs.SoundIdentLemmas.{held_deck_held, held_within}
use Rattle.upd_partial.proofs.PartLemmas.{AreNotIn, IsNotIn}
use Rattle.upd_partial.proofs.RunLemmas.{AreOfListed}

-- ---- no card is of an ident that isn't listed

no_card : (z m k : ℕ) (cs : List CardView) → AllByRecursion (λ c. c.ident < z) cs → index_from (is_card z m) k cs ≡ None
no_card z m k [] old = refl
no_card z m k (c ∷ cs) old = go (c.ident == z) refl (no_card z m (k + 1) cs old.1)
  where
    go : (b : Bool) → (c.ident == z) ≡ b → index_from (is_card z m) (k + 1) cs ≡ None → index_from (is_card z m) k (c ∷ cs) ≡ None
    go true e later = absurd (let same = same_number c.ident z e in omega (arith, same, old.0))
    go false e later = rw e later

no_place : (z m : ℕ) (ds : List DeckView) → AllByRecursion (λ d. AllByRecursion (λ c. c.ident < z) d.cards) ds → place_in ds z m ≡ None
no_place z m [] old = refl
no_place z m (d ∷ ds) old = rw (no_card z m 0 d.cards old.0) (no_place z m ds old.1)

pub sound_listed : (out : ℕ → Bool) (l : LibraryView) → IsSound l → AreOfListed (left_out out l) l
sound_listed out l sound z m later =
    let held : AllByRecursion (λ d. AllByRecursion (IsOfHeld l.idents) d.cards) (all_decks l) =
    all_each (IsOfHeld l.idents) (λ (d : DeckView). d.cards) (all_decks l) sound.cards in
    let below : AllByRecursion (λ d. AllByRecursion (λ c. c.ident < z) d.cards) (all_decks l) =
    all_weaker _ _ (all_decks l) (λ d cards. all_weaker _ _ d.cards (λ c h. young c h) cards) held in
    no_place z m (left_out out l) (all_filter _ (λ d. out d.ident) (all_decks l) below)
  where
    young : (c : CardView) → IsOfHeld l.idents c → c.ident < z
    young c h = let w = held_within 1 l.idents c.ident sound.ages h.0 in omega (arith, w.1, later)

-- ---- the decks with some serials

pub others_listed : (ages : List ℕ) (l : LibraryView) (z : ℕ) → length l.idents < z → is_left_out ages l z ≡ false
others_listed ages l z later = go (not (z == 0)) (nat_le z (length l.idents)) refl
  where
    go : (a b : Bool) → nat_le z (length l.idents) ≡ b → (a && b && not (is_among ages z)) ≡ false
    go true true e = absurd (let le : z ≤ length l.idents = grind (arith, nat_tests, e) in omega (arith, le, later))
    go true false e = refl
    go false b e = refl

same_on : {A : Type 0} (p q : A → Bool) (xs : List A) → AllByRecursion (λ x. p x ≡ q x) xs → filter p xs ≡ filter q xs
same_on p q [] all = refl
same_on {A} p q (x ∷ xs) all = go (q x) all.0 (same_on p q xs all.1)
  where
    go : (b : Bool) → p x ≡ b → filter p xs ≡ filter q xs → filter p (x ∷ xs) ≡ cond b (x ∷ filter q xs) (filter q xs)
    go true e later = rw e (ap (λ ys. x ∷ ys) later)
    go false e later = rw e later

others_are : (ages : List ℕ) (l : LibraryView) (d : ℕ) → IsSound l → is_held_deck l.idents d ≡ true → is_left_out ages l d ≡ not (is_among ages d)
others_are ages l d sound held =
    let w = held_within 1 l.idents d sound.ages (held_deck_held l.idents d held) in
    let some : (d == 0) ≡ false = (let low = w.0 in grind (arith, nat_tests, low)) in
    let within : nat_le d (length l.idents) ≡ true = (let high = w.1 in grind (arith, nat_tests, high)) in
    rw (some, within) refl

-- the part with the decks of these serials is the one that leaves out the others
pub part_of_others : (ages : List ℕ) (l : LibraryView) → IsSound l → part_of ages l ≡ part (is_left_out ages l) l
part_of_others ages l sound = λ i. record {
  idents = l.idents;
  decks = sym kept i;
  yanks = l.yanks;
  rest = record {
    cards = l.rest.cards + cards_of_decks (sym left i);
    entries = l.rest.entries + entries_of_decks (sym left i);
  };
}
  where
    left : filter (λ (d : DeckView). is_left_out ages l d.ident) l.decks ≡ filter (λ d. not (is_among ages d.ident)) l.decks
    left = same_on _ _ l.decks (all_weaker _ _ l.decks (λ d held. others_are ages l d.ident sound held) sound.decks)

    kept : filter (λ (d : DeckView). not (is_left_out ages l d.ident)) l.decks ≡ filter (λ d. not (not (is_among ages d.ident))) l.decks
    kept = same_on _ _ l.decks (all_weaker _ _ l.decks (λ d held. ap not (others_are ages l d.ident sound held)) sound.decks)

-- ---- what is left out holds no card that is found elsewhere

pub record IsIn (test : DeckView → Bool) (d : DeckView) (ds : List DeckView) : Type 0 where
  pub index : ℕ
  pub found : slice_get ds index ≡ Some d
  pub passes : test d ≡ true

pub among : (test : DeckView → Bool) (ds : List DeckView) (k : ℕ) (d : DeckView) → slice_get (filter test ds) k ≡ Some d → IsIn test d ds
among test [] k d e = absurd (cc)
among test (x ∷ ds) k d e = go (test x) refl k e (λ j. among test ds j d)
  where
    here : test x ≡ true → (k : ℕ) → slice_get (x ∷ filter test ds) k ≡ Some d → ((j : ℕ) → slice_get (filter test ds) j ≡ Some d → IsIn test d ds)
        → IsIn test d (x ∷ ds)
    here pass zero f more = let same : x ≡ d = cc in record { index = 0; found = ap Some same; passes = rw (sym same) pass }
    here pass (suc j) f more = let later = more j f in record { index = suc later.index; found = later.found; passes = later.passes }

    go : (b : Bool) → test x ≡ b → (k : ℕ) → slice_get (filter test (x ∷ ds)) k ≡ Some d
        → ((j : ℕ) → slice_get (filter test ds) j ≡ Some d → IsIn test d ds) → IsIn test d (x ∷ ds)
    go true pass j f more = here pass j (rw pass at f) more
    go false miss j f more = let later = more j (rw miss at f) in record { index = suc later.index; found = later.found; passes = later.passes }

-- a reference names no card of decks other than the one of its card
pub not_in : (out : ℕ → Bool) (l : LibraryView) (card : CardRef) → IsSound l → ((p : Place) → place_of card l ≡ Some p → out p.deck ≡ false)
    → IsNotIn (left_out out l) l card
not_in out l card sound stays z is = go (place_in (left_out out l) z card.number) refl
  where
    found : (p : Place) → place_in (left_out out l) z card.number ≡ Some p → ⊥
    found p e =
        let at = place_found (left_out out l) z card.number p e in
        let in_all = among (λ d. out d.ident) (all_decks l) at.index at.deck at.found in
        let ident : at.card.ident ≡ z = same_number at.card.ident z (and_left _ _ at.is) in
        let number : at.card.number ≡ card.number = same_number at.card.number card.number (and_right (at.card.ident == z) _ at.is) in
        let first : place_in (all_decks l) at.card.ident at.card.number ≡ Some (record { deck = at.deck.ident; index = p.index }) =
        card_place (all_decks l) in_all.index at.deck p.index at.card sound.keys in_all.found at.stands in
        let here : place_of card l ≡ Some (record { deck = at.deck.ident; index = p.index }) = rw is (rw (ident, number) at first) in
        let kept : out at.deck.ident ≡ false = stays (record { deck = at.deck.ident; index = p.index }) here in
        let gone : out at.deck.ident ≡ true = in_all.passes in
        cc

    go : (o : Option Place) → place_in (left_out out l) z card.number ≡ o → place_in (left_out out l) z card.number ≡ None
    go None e = e
    go (Some p) e = absurd (found p e)

-- a run that names no card of what is left out
pub none_in : (out : ℕ → Bool) (lines : List LineView) (l : LibraryView) → IsSound l → NamesNone out lines l → AreNotIn (left_out out l) l lines
none_in out lines l sound names =
    all_weaker _ _ lines (λ line all. all_weaker _ _ (cards_of_item line.item) (λ card. not_in out l card sound) all) names
