-- The statuses after what is found is added to those that stay.
use Rattle.upd_yank.proofs.Common.{◌≡◌, ℕ, zero, suc, Bool, true, false, ◌||◌, cond, if◌then◌else◌, List, [], ◌∷◌, ◌++◌, map, slice_get, Option, Some, None}
use Rattle.upd_yank.proofs.Common.{is_some, refl, ap, sym, ◌∙◌, list_any, flat_map, AllByRecursion, Contains, update, update_all, option_or, or_parts}
use Rattle.upd_yank.proofs.Common.{list_any-append, all_at, all_of_contained, at_contained, contained_at, status_at, CountedCardView, counted_card}
use Rattle.upd_yank.proofs.Common.{counted_cards, others_of, yanks_of, Ident, CardView, DeckView, LibraryView, all_decks, ref_of, IsSound, live_cards}
use Rattle.upd_yank.proofs.Common.{status_of, live_count, Target, same_ref, CardRef, same_ref_is, same_ref_own, is_active_by, stay}
use Rattle.upd_core.proofs.FoundLemmas.{card_of_place}
use Rattle.upd_core.specs.declared.library.Place.{Place}
use Rattle.upd_core.specs.Library.{place_of}
use Rattle.upd_yank.proofs.FlipLemmas.{status_is}
use Rattle.upd_yank.proofs.FindLemmas.{any_at, cards_found}
use Rattle.upd_yank.proofs.WorkLemmas.{HasStatus, IsListed, all_both, is_found}

-- ---- the cards of a library with their decks

-- what holds of each card of each deck holds of the cards with their decks
pub all_counted : (P : CountedCardView → Type 0) (l : LibraryView) →
    ((d : DeckView) (c : CardView) → Contains (all_decks l) d → Contains d.cards c → P (counted_card l.idents d.ident c)) → AllByRecursion P (counted_cards l)
all_counted P l each = decks (all_decks l) (λ d is. is)
  where
    cards : (d : DeckView) (cs : List CardView) → ((c : CardView) → Contains cs c → P (counted_card l.idents d.ident c)) →
        AllByRecursion P (map (counted_card l.idents d.ident) cs)
    cards d [] here = tt
    cards d (c ∷ cs) here = (
      here c (at_contained (c ∷ cs) zero c refl),
      cards d cs
          (λ x is. let at = contained_at cs x is in here x (at_contained (c ∷ cs) (suc at.0) x at.1)),
    )

    decks : (ds : List DeckView) → ((d : DeckView) → Contains ds d → Contains (all_decks l) d) →
        AllByRecursion P (flat_map (λ d. map (counted_card l.idents d.ident) d.cards) ds)
    decks [] inside = tt
    decks (d ∷ ds) inside =
        all_both P (map (counted_card l.idents d.ident) d.cards) (flat_map (λ d. map (counted_card l.idents d.ident) d.cards) ds)
        (cards d d.cards (λ c is. each d c (inside d (at_contained (d ∷ ds) zero d refl)) is))
        (decks ds (λ e is. let at = contained_at ds e is in inside e (at_contained (d ∷ ds) (suc at.0) e at.1)))

-- each card has the status that the counts of live cards give it
pub statuses_are : (l : LibraryView) → IsSound l → AllByRecursion (HasStatus l (live_count l)) (counted_cards l)
statuses_are l sound =
    all_counted (HasStatus l (live_count l)) l (λ d c in_decks in_cards. status_at l d c sound in_decks in_cards
    ∙ ap Some (status_is (live_cards l.yanks) d.ident c))

-- ---- a reference with a status is that of a card

none_of : (r : CardRef) (l : LibraryView) (b : Bool) → list_any (λ k. same_ref k.card r) (counted_cards l) ≡ b → (b ≡ false → ⊥) →
    list_any (λ k. same_ref k.card r) (counted_cards l) ≡ true
none_of r l true e other = e
none_of r l false e other = absurd (other refl)

none_by_card : (r : CardRef) (ks : List CountedCardView) → list_any (λ k. same_ref k.card r) ks ≡ false → AllByRecursion (λ k. same_ref k.card r ≡ false) ks
none_by_card r [] e = tt
none_by_card r (k ∷ ks) e = let p = or_parts (same_ref k.card r) (list_any (λ k. same_ref k.card r) ks) e in (p.0, none_by_card r ks p.1)

card_there : (l : LibraryView) (r : CardRef) (p : Place) → IsSound l → place_of r l ≡ Some p → list_any (λ k. same_ref k.card r) (counted_cards l) ≡ true
card_there l r p sound e =
    let named = card_of_place l r p sound e in
    let c = named.0 in
    let deck = cards_found l p.deck p.index c named.1 in
    let same : same_ref (ref_of l.idents c) r ≡ true = ap (same_ref (ref_of l.idents c)) (sym named.2) ∙ same_ref_own (ref_of l.idents c) in
    none_of r l (list_any (λ k. same_ref k.card r) (counted_cards l)) refl (λ none. let others = none_by_card r (counted_cards l) none in
    let here = there l (λ k. same_ref k.card r ≡ false) deck.0 c deck.1 deck.3 others in absurd (let q = sym same ∙ here in cc))
  where
    in_map : (P : CountedCardView → Type 0) (idents : List Ident) (d : ℕ) (cs : List CardView) → AllByRecursion P (map (counted_card idents d) cs) →
        AllByRecursion (λ c. P (counted_card idents d c)) cs
    in_map P idents d [] all = tt
    in_map P idents d (c ∷ cs) all = (all.0, in_map P idents d cs all.1)

    front : (P : CountedCardView → Type 0) (xs ys : List CountedCardView) → AllByRecursion P (xs ++ ys) → AllByRecursion P xs × AllByRecursion P ys
    front P [] ys all = (tt, all)
    front P (x ∷ xs) ys all = let rest = front P xs ys all.1 in ((all.0, rest.0), rest.1)

    in_decks : (P : CountedCardView → Type 0) (idents : List Ident) (ds : List DeckView) →
        AllByRecursion P (flat_map (λ d. map (counted_card idents d.ident) d.cards) ds) →
        AllByRecursion (λ d. AllByRecursion (λ c. P (counted_card idents d.ident c)) d.cards) ds
    in_decks P idents [] all = tt
    in_decks P idents (d ∷ ds) all =
        let both = front P (map (counted_card idents d.ident) d.cards) (flat_map (λ d. map (counted_card idents d.ident) d.cards) ds) all in
        (in_map P idents d.ident d.cards both.0, in_decks P idents ds both.1)

    there : (l : LibraryView) (P : CountedCardView → Type 0) (d : DeckView) (c : CardView) → Contains (all_decks l) d → Contains d.cards c →
        AllByRecursion P (counted_cards l) →
        P (counted_card l.idents d.ident c)
    there l P d c is_deck is_card all =
        all_of_contained (λ c. P (counted_card l.idents d.ident c)) d.cards c
        (all_of_contained (λ (d : DeckView). AllByRecursion (λ c. P (counted_card l.idents d.ident c)) d.cards) (all_decks l) d
        (in_decks P l.idents (all_decks l) all) is_deck) is_card

pub status_there : (l : LibraryView) (r : CardRef) (s : Bool) → IsSound l → status_of r l ≡ Some s → list_any (λ k. same_ref k.card r) (counted_cards l) ≡ true
status_there l r s sound e = go (place_of r l) refl
  where
    go : (o : Option Place) → place_of r l ≡ o → list_any (λ k. same_ref k.card r) (counted_cards l) ≡ true
    go (Some p) f = card_there l r p sound f
    go None f = let none = rw f at e in absurd (cc)

-- ---- what is put

-- once what is found is added in order, each card has its status, if those that aren't found had it
pub put_all : (l : LibraryView) (found : List (CardRef × Bool)) (had : CardRef → Option Bool) (r : CardRef) →
    AllByRecursion (λ p. status_of p.0 l ≡ Some p.1) found →
    (is_found found r ≡ false → had r ≡ status_of r l) → update_all same_ref had found r ≡ status_of r l
put_all l [] had r right rest = rest refl
put_all l (p ∷ ps) had r right rest = put_all l ps (update same_ref had p.0 (Some p.1)) r right.1 (next (same_ref p.0 r) refl)
  where
    next : (b : Bool) → same_ref p.0 r ≡ b → is_found ps r ≡ false → cond (same_ref p.0 r) (Some p.1) (had r) ≡ status_of r l
    next true e none = rw e (sym right.0 ∙ ap (λ x. status_of x l) (same_ref_is p.0 r e))
    next false e none = rw e (rest (rw e none))

-- ---- what stays

-- each card that isn't due had its status
abbrev pub HadStatus : LibraryView → (CountedCardView → Bool) → (CardRef → Option Bool) → CountedCardView → Type 0
HadStatus l due known k = due k ≡ false → known k.card ≡ status_of k.card l

two_stay : (known : CardRef → Option Bool) (a b : Bool) (r : CardRef) (s : Bool) → (a || b) ≡ true → known r ≡ Some s →
    (if b then option_or (known r) (if a then option_or (known r) None else None) else (if a then option_or (known r) None else None)) ≡ Some s
two_stay known true true r s e is = rw is refl
two_stay known true false r s e is = rw is refl
two_stay known false true r s e is = rw is refl
two_stay known false false r s e is = absurd (cc)

none_stay : (known : CardRef → Option Bool) (a b : Bool) (r : CardRef) → (a || b) ≡ false →
    (if b then option_or (known r) (if a then option_or (known r) None else None) else (if a then option_or (known r) None else None)) ≡ None
none_stay known true b r e = absurd (cc)
none_stay known false true r e = absurd (cc)
none_stay known false false r e = refl

-- a card that isn't found had its status
had_status : (l : LibraryView) (due : CountedCardView → Bool) (known : CardRef → Option Bool) (found : List (CardRef × Bool)) (r : CardRef) →
    AllByRecursion (HadStatus l due known) (counted_cards l) → AllByRecursion (IsListed due found) (counted_cards l) → is_found found r ≡ false →
    list_any (λ k. same_ref k.card r) (counted_cards l) ≡ true → known r ≡ status_of r l
had_status l due known found r had listed none there = at (any_at (λ k. same_ref k.card r) (counted_cards l) there)
  where
    not_due : (k : CountedCardView) → IsListed due found k → k.card ≡ r → (b : Bool) → due k ≡ b → due k ≡ false
    not_due k here same false f = f
    not_due k here same true f = absurd (let q = sym none ∙ sym (ap (is_found found) same) ∙ here f in cc)

    at : (i : ℕ) × (k : CountedCardView) × (slice_get (counted_cards l) i ≡ Some k) × (same_ref k.card r ≡ true) → known r ≡ status_of r l
    at found_card =
        let k = found_card.1 in
        let same : k.card ≡ r = same_ref_is k.card r found_card.3 in
        let undue = not_due k (all_at (IsListed due found) (counted_cards l) found_card.0 k listed found_card.2) same (due k) refl in
        sym (ap known same) ∙ all_at (HadStatus l due known) (counted_cards l) found_card.0 k had found_card.2 undue ∙ ap (λ x. status_of x l) same

pub unfound_stayed : (l : LibraryView) (due : CountedCardView → Bool) (known : CardRef → Option Bool) (found : List (CardRef × Bool)) (r : CardRef) →
    IsSound l → AllByRecursion (HadStatus l due known) (counted_cards l) → AllByRecursion (IsListed due found) (counted_cards l) →
    is_found found r ≡ false → is_some (status_of r l) ≡ true → known r ≡ status_of r l
unfound_stayed l due known found r sound had listed none there = go (status_of r l) refl
  where
    go : (o : Option Bool) → status_of r l ≡ o → known r ≡ status_of r l
    go None e = absurd (let q = sym (ap is_some e) ∙ there in cc)
    go (Some s) e = had_status l due known found r had listed none (status_there l r s sound e)

pub stay_right : (l : LibraryView) (due : CountedCardView → Bool) (known : CardRef → Option Bool) (now : Target → ℕ) (found : List (CardRef × Bool))
    (r : CardRef) → IsSound l →
    AllByRecursion (HasStatus l now) (counted_cards l) → AllByRecursion (HadStatus l due known) (counted_cards l) →
    AllByRecursion (IsListed due found) (counted_cards l) → is_found found r ≡ false →
    stay known (others_of l) (stay known (yanks_of l) (λ _. None)) r ≡ status_of r l
stay_right l due known now found r sound has had listed none = go (list_any (λ k. same_ref k.card r) (counted_cards l)) refl
  where
    parts : list_any (λ k. same_ref k.card r) (counted_cards l) ≡ (list_any (λ k. same_ref k.card r) (yanks_of l) || list_any (λ k. same_ref k.card r)
        (others_of l))
    parts = list_any-append (λ k. same_ref k.card r) (yanks_of l) (others_of l)

    no_status : (o : Option Bool) → status_of r l ≡ o → list_any (λ k. same_ref k.card r) (counted_cards l) ≡ false → status_of r l ≡ None
    no_status None e f = e
    no_status (Some s) e f = absurd (let q = sym f ∙ status_there l r s sound e in cc)

    go : (b : Bool) → list_any (λ k. same_ref k.card r) (counted_cards l) ≡ b → stay known (others_of l) (stay known (yanks_of l) (λ _. None)) r ≡ status_of r l
    go false e =
        none_stay known (list_any (λ k. same_ref k.card r) (yanks_of l)) (list_any (λ k. same_ref k.card r) (others_of l)) r (sym parts ∙ e)
        ∙ sym (no_status (status_of r l) refl e)
    go true e = at (any_at (λ k. same_ref k.card r) (counted_cards l) e)
      where
        at : (i : ℕ) × (k : CountedCardView) × (slice_get (counted_cards l) i ≡ Some k) × (same_ref k.card r ≡ true) →
            stay known (others_of l) (stay known (yanks_of l) (λ _. None)) r ≡ status_of r l
        at found_card =
            let k = found_card.1 in
            let same : k.card ≡ r = same_ref_is k.card r found_card.3 in
            let status = sym (ap (λ x. status_of x l) same) ∙ all_at (HasStatus l now) (counted_cards l) found_card.0 k has found_card.2 in
            two_stay known (list_any (λ k. same_ref k.card r) (yanks_of l)) (list_any (λ k. same_ref k.card r) (others_of l)) r (is_active_by now k.deck k.view)
            (sym parts ∙ e) (had_status l due known found r had listed none e ∙ status) ∙ sym status
