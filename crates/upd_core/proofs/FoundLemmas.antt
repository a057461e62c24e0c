-- Cards in a sound library: each is found by its own reference, and a reference finds no other card.
use Rattle.upd_core.proofs.Common.{◌≡◌, ℕ, zero, suc, ◌+◌, ◌-◌, ◌≤◌, Bool, true, false, ◌&&◌, List, [], ◌∷◌, ◌++◌, map, slice_get, Option, Some, None, refl}
use Rattle.upd_core.proofs.Common.{sym, ap, ◌∙◌, subst, arith, nat_tests, Decides-eqb, same_Some, ◌==◌, option_map, option_map_or, option_and_then, filter}
use Rattle.upd_core.proofs.Common.{flat_map, AllByRecursion, Contains, CardRef, Ident, Place, index_from, CardView, DeckView, LibraryView, all_decks, card_in}
use Rattle.upd_core.proofs.Common.{held_named, is_card, is_deck, place_in, place_of, ref_of, AreApart, IsSound, is_active, live_targets, status_of}
use Rattle.std.proofs.lemmas.List.Elements.{Contains-append_left, Contains-append_right}
use Rattle.std.proofs.lemmas.Slice.Eq.{bytes_eq-Decides}
use Rattle.std.specs.Str.{bytes_eq}
use Rattle.upd_core.specs.Library.{cards_of, ident_of, name_of}
use Rattle.upd_core.specs.Sound.{AreAgedFrom, IsOfHeld, all_cards, is_held, key_of}
use Rattle.upd_core.proofs.ApartLemmas.{contained_at, at_contained, all_at, all_by_index, all_of_contained, all_mapped, apart_front, apart_back}
use Rattle.upd_core.proofs.ApartLemmas.{apart_across, apart_same, find_first, find_later, find_only, index_found, rising_apart}

-- ---- held idents and their names

-- an ident at its index in a directory that begins with serial n
pub record IsAt (n z : ℕ) (idents : List Ident) (i : Ident) : Type 0 where
  pub place : slice_get idents (z - n) ≡ Some i
  pub from : n ≤ z
  pub held : i.held ≡ true
  pub age : i.age ≡ z

at_head : (n z : ℕ) (idents : List Ident) (i : Ident) → n ≡ z → i.held ≡ true → i.age ≡ z → IsAt n z (i ∷ idents) i
at_head n z idents i e held age = let start : z - n ≡ 0 = omega arith in record { place = rw start refl; from = omega arith; held = held; age = age }

at_tail : (n z : ℕ) (idents : List Ident) (j i : Ident) → IsAt (n + 1) z idents i → IsAt n z (j ∷ idents) i
at_tail n z idents j i at =
    let from = at.from in
    let distance : z - n ≡ suc (z - (n + 1)) = omega arith in
    record { place = rw distance at.place; from = omega arith; held = at.held; age = at.age }

pub held_at : (n z : ℕ) (idents : List Ident) → AreAgedFrom n idents → is_held idents z ≡ true → (i : Ident) × IsAt n z idents i
held_at n z [] ages e = absurd (cc)
held_at n z (j ∷ idents) ages e = go j.held refl (j.age == z) refl (held_at (n + 1) z idents ages.1)
  where
    Later : Type 0
    Later = is_held idents z ≡ true → (i : Ident) × IsAt (n + 1) z idents i

    tail : (i : Ident) × IsAt (n + 1) z idents i → (i : Ident) × IsAt n z (j ∷ idents) i
    tail found = (found.0, at_tail n z idents j found.0 found.1)

    go : (h : Bool) → j.held ≡ h → (b : Bool) → (j.age == z) ≡ b → Later → (i : Ident) × IsAt n z (j ∷ idents) i
    go true held true same later = let age : j.age ≡ z = (Decides-eqb j.age z).0 same in (j, at_head n z idents j (sym ages.0 ∙ age) held age)
    go true held false other later = tail (later (rw (held, other) at e))
    go false gone b f later = tail (later (rw gone at e))

-- whether an ident is the held one of a name
abbrev is_named : List ℕ → Ident → Bool
is_named name i = i.held && bytes_eq i.name name

-- what is found by a name is at its index
pub named_at : (n : ℕ) (name : List ℕ) (idents : List Ident) (i : Ident) → AreAgedFrom n idents → held_named name idents ≡ Some i
    → IsAt n i.age idents i × (i.name ≡ name)
named_at n name [] i ages e = absurd (cc)
named_at n name (j ∷ idents) i ages e = go j.held refl (bytes_eq j.name name) refl (named_at (n + 1) name idents i ages.1)
  where
    Later : Type 0
    Later = held_named name idents ≡ Some i → IsAt (n + 1) i.age idents i × (i.name ≡ name)

    head : j.held ≡ true → bytes_eq j.name name ≡ true → j ≡ i → IsAt n i.age (j ∷ idents) i × (i.name ≡ name)
    head held named same = subst (λ k. IsAt n k.age (j ∷ idents) k × (k.name ≡ name)) same
        (at_head n j.age idents j (sym ages.0) held refl, (bytes_eq-Decides j.name name).0 named)

    tail : IsAt (n + 1) i.age idents i × (i.name ≡ name) → IsAt n i.age (j ∷ idents) i × (i.name ≡ name)
    tail found = (at_tail n i.age idents j i found.0, found.1)

    go : (h : Bool) → j.held ≡ h → (b : Bool) → bytes_eq j.name name ≡ b → Later → IsAt n i.age (j ∷ idents) i × (i.name ≡ name)
    go true held true named later = head held named (same_Some j i (sym (find_first (is_named name) j idents (rw (held, named) refl)) ∙ e))
    go true held false other later = tail (later (sym (find_later (is_named name) j idents (rw (held, other) refl)) ∙ e))
    go false gone b f later = tail (later (sym (find_later (is_named name) j idents (rw gone refl)) ∙ e))

pub name_at_place : (z : ℕ) (idents : List Ident) (i : Ident) → IsAt 1 z idents i → name_of idents z ≡ i.name
name_at_place z idents i at =
    let from = at.from in
    let some : (z == 0) ≡ false = grind (arith, nat_tests) in
    rw (some, at.place) refl

-- held names differ, so a search by name finds the ident
abbrev held_names : List Ident → List (List ℕ)
held_names idents = map (λ i. i.name) (filter (λ i. i.held) idents)

name_held : (P : List ℕ → Type 0) (idents : List Ident) (k : ℕ) (i : Ident) → AllByRecursion P (held_names idents) → slice_get idents k ≡ Some i
    → i.held ≡ true → P i.name
name_held P [] k i all e held = absurd (cc)
name_held P (j ∷ idents) zero i all e held =
    let same : j ≡ i = same_Some j i e in
    let here : j.held ≡ true = subst (λ h. h.held ≡ true) (sym same) held in
    let first = rw here at all in
    subst (λ h. P h.name) same first.0
name_held P (j ∷ idents) (suc k) i all e held = go j.held refl (λ all. name_held P idents k i all e held)
  where
    go : (b : Bool) → j.held ≡ b → (AllByRecursion P (held_names idents) → P i.name) → P i.name
    go true f later = let all = rw f at all in later all.1
    go false f later = later (rw f at all)

find_named : (idents : List Ident) (k : ℕ) (i : Ident) → AreApart (held_names idents) → slice_get idents k ≡ Some i → i.held ≡ true
    → held_named i.name idents ≡ Some i
find_named [] k i apart e held = absurd (cc)
find_named (j ∷ idents) zero i apart e held =
    let same : j ≡ i = same_Some j i e in
    let here : j.held ≡ true = subst (λ h. h.held ≡ true) (sym same) held in
    let named : bytes_eq j.name i.name ≡ true = (bytes_eq-Decides j.name i.name).1 (ap (λ h. h.name) same) in
    find_first (is_named i.name) j idents (rw (here, named) refl) ∙ e
find_named (j ∷ idents) (suc k) i apart e held = go j.held refl (bytes_eq j.name i.name) refl (λ apart. find_named idents k i apart e held)
  where
    go : (h : Bool) → j.held ≡ h → (b : Bool) → bytes_eq j.name i.name ≡ b → (AreApart (held_names idents) → held_named i.name idents ≡ Some i)
        → held_named i.name (j ∷ idents) ≡ Some i
    go false f b g later = find_later (is_named i.name) j idents (rw f refl) ∙ later (rw f at apart)
    go true f true g later =
        let apart = rw f at apart in
        absurd (name_held (λ n. j.name ≡ n → ⊥) idents k i apart.0 e held ((bytes_eq-Decides j.name i.name).0 g))
    go true f false g later = let apart = rw f at apart in find_later (is_named i.name) j idents (rw (f, g) refl) ∙ later apart.1

-- a held ident is found by its name
pub held_found : (l : LibraryView) (z : ℕ) → IsSound l → is_held l.idents z ≡ true → ident_of (name_of l.idents z) l ≡ Some z
held_found l z sound held =
    let at = held_at 1 z l.idents sound.ages held in
    let i = at.0 in
    ap (λ name. ident_of name l) (name_at_place z l.idents i at.1)
    ∙ ap (option_map (λ (i : Ident). i.age)) (find_named l.idents (z - 1) i sound.names at.1.place at.1.held)
    ∙ ap Some at.1.age

-- ---- cards and their places

is_itself : (c : CardView) → is_card c.ident c.number c ≡ true
is_itself c = rw ((Decides-eqb c.ident c.ident).1 refl, (Decides-eqb c.number c.number).1 refl) refl

is_card_of : (z n : ℕ) (c : CardView) → is_card z n c ≡ true → (c.ident ≡ z) × (c.number ≡ n)
is_card_of z n c is = go (c.ident == z) refl (c.number == n) refl
  where
    go : (x : Bool) → (c.ident == z) ≡ x → (y : Bool) → (c.number == n) ≡ y → (c.ident ≡ z) × (c.number ≡ n)
    go true e true f = ((Decides-eqb c.ident z).0 e, (Decides-eqb c.number n).0 f)
    go true e false f = let g = rw (e, f) at is in absurd (cc)
    go false e y f = let g = rw e at is in absurd (cc)

is_no_other : (b c : CardView) → (key_of b ≡ key_of c → ⊥) → is_card c.ident c.number b ≡ false
is_no_other b c other = go (b.ident == c.ident) refl (b.number == c.number) refl
  where
    go : (x : Bool) → (b.ident == c.ident) ≡ x → (y : Bool) → (b.number == c.number) ≡ y → is_card c.ident c.number b ≡ false
    go true e true f =
        let a = (Decides-eqb b.ident c.ident).0 e in
        let n = (Decides-eqb b.number c.number).0 f in
        absurd (other (rw (a, n) refl))
    go true e false f = rw (e, f) refl
    go false e y f = rw e refl

-- in cards that differ each is found at its index
card_index : (n : ℕ) (cards : List CardView) (k : ℕ) (c : CardView) → AreApart (map key_of cards) → slice_get cards k ≡ Some c
    → index_from (is_card c.ident c.number) n cards ≡ Some (n + k)
card_index n [] k c apart e = absurd (cc)
card_index n (b ∷ cards) zero c apart e =
    let here : is_card c.ident c.number b ≡ true = subst (λ a. is_card c.ident c.number a ≡ true) (sym (same_Some b c e)) (is_itself c) in
    rw here (ap Some (omega arith))
card_index n (b ∷ cards) (suc k) c apart e =
    let other : key_of b ≡ key_of c → ⊥ = all_at (λ a. key_of b ≡ key_of a → ⊥) cards k c (all_mapped (λ key. key_of b ≡ key → ⊥) key_of cards apart.0) e in
    rw (is_no_other b c other) (card_index (n + 1) cards k c apart.1 e ∙ ap Some (omega arith))

-- and not among cards that it differs from
no_card_index : (n : ℕ) (cards : List CardView) (c : CardView) → AllByRecursion (λ b. key_of b ≡ key_of c → ⊥) cards
    → index_from (is_card c.ident c.number) n cards ≡ None
no_card_index n [] c other = refl
no_card_index n (b ∷ cards) c other = rw (is_no_other b c other.0) (no_card_index (n + 1) cards c other.1)

-- the cards of decks
abbrev pub flat : List DeckView → List CardView
flat ds = flat_map (λ d. d.cards) ds

-- a card of a deck is one of all
pub in_flat : (ds : List DeckView) (j : ℕ) (d : DeckView) (k : ℕ) (c : CardView) → slice_get ds j ≡ Some d → slice_get d.cards k ≡ Some c → Contains (flat ds) c
in_flat [] j d k c e f = absurd (cc)
in_flat (b ∷ ds) zero d k c e f =
    Contains-append_left b.cards (flat ds) c (subst (λ x. Contains x.cards c) (sym (same_Some b d e)) (at_contained d.cards k c f))
in_flat (b ∷ ds) (suc j) d k c e f = Contains-append_right b.cards (flat ds) c (in_flat ds j d k c e f)

pub card_place : (ds : List DeckView) (j : ℕ) (d : DeckView) (k : ℕ) (c : CardView) → AreApart (map key_of (flat ds)) → slice_get ds j ≡ Some d
    → slice_get d.cards k ≡ Some c → place_in ds c.ident c.number ≡ Some (record { deck = d.ident; index = k })
card_place [] j d k c apart e f = absurd (cc)
card_place (b ∷ ds) zero d k c apart e f =
    subst (λ x. place_in (x ∷ ds) c.ident c.number ≡ Some (record { deck = d.ident; index = k })) (sym (same_Some b d e)) here
  where
    own : AreApart (map key_of d.cards)
    own = apart_front key_of d.cards (flat ds) (subst (λ x. AreApart (map key_of (x.cards ++ flat ds))) (same_Some b d e) apart)

    here : place_in (d ∷ ds) c.ident c.number ≡ Some (record { deck = d.ident; index = k })
    here =
        let index : index_from (is_card c.ident c.number) 0 d.cards ≡ Some k = card_index 0 d.cards k c own f ∙ ap Some (omega arith) in
        rw index refl
card_place (b ∷ ds) (suc j) d k c apart e f =
    let at = contained_at (flat ds) c (in_flat ds j d k c e f) in
    let others : AllByRecursion (λ a. key_of a ≡ key_of c → ⊥) b.cards =
    all_by_index b.cards (λ i a g. apart_across key_of b.cards (flat ds) i at.0 a c apart g at.1) in
    rw (no_card_index 0 b.cards c others) (card_place ds j d k c (apart_back key_of b.cards (flat ds) apart) e f)

-- the deck with a serial, where serials differ
pub cards_of_deck : (l : LibraryView) (j : ℕ) (d : DeckView) → AreApart (map (λ d. d.ident) (all_decks l)) → slice_get (all_decks l) j ≡ Some d
    → cards_of d.ident l ≡ d.cards
cards_of_deck l j d apart e =
    ap (λ o. option_map_or (λ (d : DeckView). d.cards) o [])
    (find_only (λ (d : DeckView). d.ident) (is_deck d.ident) (all_decks l) j d apart e
    ((Decides-eqb d.ident d.ident).1 refl) (λ b is. (Decides-eqb b.ident d.ident).0 is))

pub deck_ages_apart : (l : LibraryView) → IsSound l → AreApart (map (λ d. d.ident) (all_decks l))
deck_ages_apart l sound = rising_apart (map (λ d. d.ident) (all_decks l)) sound.deck_ages

-- ---- each card is found by its own reference

pub card_held : (l : LibraryView) (c : CardView) → IsSound l → Contains (all_cards l) c → is_held l.idents c.ident ≡ true
card_held l c sound is = let held : IsOfHeld l.idents c = all_of_contained (IsOfHeld l.idents) (all_cards l) c sound.cards is in held.0

pub place_at : (l : LibraryView) (d : DeckView) (i : ℕ) (c : CardView) → IsSound l → Contains (all_decks l) d → slice_get d.cards i ≡ Some c
    → place_of (ref_of l.idents c) l ≡ Some (record { deck = d.ident; index = i })
place_at l d i c sound is e =
    let at = contained_at (all_decks l) d is in
    let held : is_held l.idents c.ident ≡ true = card_held l c sound (in_flat (all_decks l) at.0 d i c at.1 e) in
    ap (option_and_then (λ age. place_in (all_decks l) age c.number)) (held_found l c.ident sound held) ∙ card_place (all_decks l) at.0 d i c sound.keys at.1 e

pub card_at : (l : LibraryView) (d : DeckView) (i : ℕ) (c : CardView) → IsSound l → Contains (all_decks l) d → slice_get d.cards i ≡ Some c
    → card_in (record { deck = d.ident; index = i }) l ≡ Some c
card_at l d i c sound is e =
    let at = contained_at (all_decks l) d is in
    ap (λ cards. slice_get cards i) (cards_of_deck l at.0 d (deck_ages_apart l sound) at.1) ∙ e

pub status_at : (l : LibraryView) (d : DeckView) (c : CardView) → IsSound l → Contains (all_decks l) d → Contains d.cards c
    → status_of (ref_of l.idents c) l ≡ Some (is_active (live_targets l) d.ident c)
status_at l d c sound is e =
    let at = contained_at d.cards c e in
    rw (place_at l d at.0 c sound is at.1, card_at l d at.0 c sound is at.1) refl

-- ---- a reference finds no other card

-- what is found in decks is there
pub record StandsAt (z n : ℕ) (p : Place) (ds : List DeckView) : Type 0 where
  pub index : ℕ
  pub deck : DeckView
  pub card : CardView
  pub found : slice_get ds index ≡ Some deck
  pub age : deck.ident ≡ p.deck
  pub stands : slice_get deck.cards p.index ≡ Some card
  pub is : is_card z n card ≡ true

pub place_found : (ds : List DeckView) (z n : ℕ) (p : Place) → place_in ds z n ≡ Some p → StandsAt z n p ds
place_found [] z n p e = absurd (cc)
place_found (d ∷ ds) z n p e = go (index_from (is_card z n) 0 d.cards) refl (place_found ds z n p)
  where
    go : (o : Option ℕ) → index_from (is_card z n) 0 d.cards ≡ o → (place_in ds z n ≡ Some p → StandsAt z n p ds) → StandsAt z n p (d ∷ ds)
    go None f later =
        let at = later (rw f at e) in
        record { index = suc at.index; deck = at.deck; card = at.card; found = at.found; age = at.age; stands = at.stands; is = at.is }
    go (Some i) f later =
        let at = index_found (is_card z n) 0 d.cards i f in
        let same : record { deck = d.ident; index = i } ≡ p = same_Some _ p (rw f at e) in
        let index : i - 0 ≡ p.index = (omega arith) ∙ ap (λ (q : Place). q.index) same in
        record {
          index = zero;
          deck = d;
          card = at.0;
          found = refl;
          age = ap (λ (q : Place). q.deck) same;
          stands = subst (λ k. slice_get d.cards k ≡ Some at.0) index at.1;
          is = at.2;
        }

-- a reference finds a card that it is the reference of
pub card_of_place : (l : LibraryView) (card : CardRef) (p : Place) → IsSound l → place_of card l ≡ Some p
    → (c : CardView) × (card_in p l ≡ Some c) × (ref_of l.idents c ≡ card)
card_of_place l card p sound e = go (held_named card.name l.idents) refl
  where
    go : (o : Option Ident) → held_named card.name l.idents ≡ o → (c : CardView) × (card_in p l ≡ Some c) × (ref_of l.idents c ≡ card)
    go None f = let g = rw f at e in absurd (cc)
    go (Some i) f =
        let named = named_at 1 card.name l.idents i sound.ages f in
        let at = place_found (all_decks l) i.age card.number p (rw f at e) in
        let cards : cards_of p.deck l ≡ at.deck.cards =
        subst (λ d. cards_of d l ≡ at.deck.cards) at.age (cards_of_deck l at.index at.deck (deck_ages_apart l sound) at.found) in
        (at.card, ap (λ cards. slice_get cards p.index) cards ∙ at.stands, same_ref i at.card named at.is)
      where
        same_ref : (i : Ident) (c : CardView) → IsAt 1 i.age l.idents i × (i.name ≡ card.name) → is_card i.age card.number c ≡ true → ref_of l.idents c ≡ card
        same_ref i c named is =
            let own = is_card_of i.age card.number c is in
            let name : name_of l.idents c.ident ≡ card.name = ap (name_of l.idents) own.0 ∙ name_at_place i.age l.idents i named.0 ∙ named.1 in
            let number : c.number ≡ card.number = own.1 in
            rw (name, number) refl

-- references of cards of held idents differ where the cards differ
same_key_of : (l : LibraryView) (b c : CardView) → IsSound l → is_held l.idents b.ident ≡ true → is_held l.idents c.ident ≡ true
    → ref_of l.idents b ≡ ref_of l.idents c → key_of b ≡ key_of c
same_key_of l b c sound one other same =
    let names : name_of l.idents b.ident ≡ name_of l.idents c.ident = ap (λ (r : CardRef). r.name) same in
    let ident : b.ident ≡ c.ident = same_Some b.ident c.ident (
    sym (held_found l b.ident sound one) ∙ ap (λ name. ident_of name l) names ∙ held_found l c.ident sound other) in
    let number : b.number ≡ c.number = ap (λ (r : CardRef). r.number) same in
    rw (ident, number) refl

-- cards of one reference are one card
pub one_card : (l : LibraryView) (b c : CardView) → IsSound l → Contains (all_cards l) b → Contains (all_cards l) c → ref_of l.idents b ≡ ref_of l.idents c
    → b ≡ c
one_card l b c sound one other same =
    let at = contained_at (all_cards l) b one in
    let there = contained_at (all_cards l) c other in
    apart_same key_of (all_cards l) at.0 there.0 b c sound.keys at.1 there.1 (
    same_key_of l b c sound (card_held l b sound one) (card_held l c sound other) same)

-- the references of all cards differ
pub refs_apart : (l : LibraryView) → IsSound l → AreApart (map (ref_of l.idents) (all_cards l))
refs_apart l sound = go (all_cards l) sound.cards sound.keys
  where
    others : (c : CardView) (cards : List CardView) → IsOfHeld l.idents c → AllByRecursion (IsOfHeld l.idents) cards
        → AllByRecursion (λ key. key_of c ≡ key → ⊥) (map key_of cards) → AllByRecursion (λ r. ref_of l.idents c ≡ r → ⊥) (map (ref_of l.idents) cards)
    others c [] held all apart = tt
    others c (b ∷ cards) held all apart = ((λ same. apart.0 (same_key_of l c b sound held.0 all.0.0 same)), others c cards held all.1 apart.1)

    go : (cards : List CardView) → AllByRecursion (IsOfHeld l.idents) cards → AreApart (map key_of cards) → AreApart (map (ref_of l.idents) cards)
    go [] all apart = tt
    go (c ∷ cards) all apart = (others c cards all.0 all.1 apart.0, go cards all.1 apart.1)
