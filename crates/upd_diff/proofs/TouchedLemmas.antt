-- Cards that are looked for by ident and number, where no two have the same.
use Rattle.upd_diff.proofs.Common.{◌≡◌, ℕ, zero, suc, ◌+◌, ◌<◌, ◌≤◌, Bool, true, false, List, [], ◌∷◌, ◌++◌, map, length, drop, get_or, slice_get, Some}
use Rattle.upd_diff.proofs.Common.{subst, refl, ap, sym, ◌∙◌, append_assoc, append-nil, arith, ◌==◌, not, list_any, flat_map, find, filter, AllByRecursion}
use Rattle.upd_diff.proofs.Common.{Contains, and_right, Decides-eqb, Entry, same_entry, IsOf, same_history, stood_in, touched_in, CardView, DeckView}
use Rattle.upd_diff.proofs.Common.{LibraryView, is_deck, all_decks, ref_of, AreApart, AreRising, key_of, all_cards, at_contained, contained_at, rising_apart}
use Rattle.upd_diff.proofs.Common.{CardDiffView, DeckDiffView, Kept, Gone, New, Lead, IsKept, card_before, deck_before, deck_after, has_cards, standing}
use Rattle.upd_diff.proofs.Common.{same_Some, drop_more, drop_all, Ident, CardRef}
use Rattle.std.proofs.Common.{◌&&◌, ◌||◌, if◌then◌else◌, add-one}
use Rattle.std.specs.Option.{option_map_or}
use Rattle.upd_core.specs.Library.{is_card, cards_of}
use Rattle.upd_core.proofs.ApartLemmas.{all_at, all_by_index, all_mapped, apart_front, apart_back}
use Rattle.upd_core.proofs.FoundLemmas.{cards_of_deck}
use Rattle.upd_diff.proofs.RowChangeLemmas.{same_standing}

-- ---- tests on cards

key_from_tests : (ident number : ℕ) (c : CardView) (a b : Bool) → (a ≡ true → c.ident ≡ ident) → (b ≡ true → c.number ≡ number) → (a && b) ≡ true → key_of c
    ≡ (ident, number)
key_from_tests ident number c true b ident_is number_is e = let p = ident_is refl in let q = number_is e in λ i. (p i, q i)
key_from_tests ident number c false b ident_is number_is e = absurd (cc)

-- a card that is found has the key that was looked for
key_is : (ident number : ℕ) (c : CardView) → is_card ident number c ≡ true → key_of c ≡ (ident, number)
key_is ident number c e =
    key_from_tests ident number c (c.ident == ident) (c.number == number) (Decides-eqb c.ident ident).0 (Decides-eqb c.number number).0 e

-- what a test at a card of the list says
step_at_card : (b same rest : Bool) → b ≡ true → rest ≡ false → ((b && same) || rest) ≡ same
step_at_card true true rest e none = refl
step_at_card true false rest e none = none
step_at_card false same rest e none = absurd (cc)

step_at_other : (b same rest wanted : Bool) → (b ≡ true → ⊥) → rest ≡ wanted → ((b && same) || rest) ≡ wanted
step_at_other true same rest wanted other is = absurd (other refl)
step_at_other false same rest wanted other is = is

-- ---- no other card has the key of a card that is there

none_of_key : (ident number : ℕ) (same : CardView → Bool) (key : ℕ × ℕ) (xs : List CardView) → key ≡ (ident, number)
    → AllByRecursion (λ k. key ≡ k → ⊥) (map key_of xs) → list_any (λ b. is_card ident number b && same b) xs ≡ false
none_of_key ident number same key [] e others = refl
none_of_key ident number same key (x ∷ xs) e others =
    step_at_other (is_card ident number x) (same x) _ false (λ t. others.0 (e
    ∙ sym (key_is ident number x t))) (none_of_key ident number same key xs e others.1)

-- where a card of these has the key that is looked for, only that card decides
stood_from : (ident number : ℕ) (same : CardView → Bool) (xs : List CardView) (k : ℕ) (c : CardView) → AreApart (map key_of xs) → slice_get xs k ≡ Some c
    → key_of c ≡ (ident, number) → is_card ident number c ≡ true → list_any (λ b. is_card ident number b && same b) xs ≡ same c
stood_from ident number same [] k c apart at key is = absurd (cc)
stood_from ident number same (x ∷ xs) zero c apart at key is =
    let e : x ≡ c = same_Some x c at in
    step_at_card (is_card ident number x) (same x) _ (ap (is_card ident number) e ∙ is) (none_of_key ident number same (key_of x) xs (ap key_of e
    ∙ key) apart.0)
    ∙ ap same e
stood_from ident number same (x ∷ xs) (suc k) c apart at key is =
    step_at_other (is_card ident number x) (same x) _ _
    (λ t. all_at (λ y. key_of x ≡ key_of y → ⊥) xs k c (all_mapped (λ z. key_of x ≡ z → ⊥) key_of xs apart.0) at (key_is ident number x t ∙ sym key))
    (stood_from ident number same xs k c apart.1 at key is)

-- a kept card is among these with the same history exactly where its history is unchanged
pub stayed : (xs : List CardView) (was is : CardView) → AreApart (map key_of xs) → Contains xs was → is ≡ record was { history = is.history }
    → same_history was.history is.history ≡ stood_in xs is
stayed xs was is apart in_xs kept =
    let at = contained_at xs was in_xs in
    let ident : is.ident ≡ was.ident = ap (λ c. c.ident) kept in
    let number : is.number ≡ was.number = ap (λ c. c.number) kept in
    sym (stood_from is.ident is.number (λ b. same_history b.history is.history) xs at.0 was apart at.1 (λ i. (sym ident i, sym number i))
    (rw ((Decides-eqb was.ident is.ident).1 (sym ident), (Decides-eqb was.number is.number).1 (sym number)) refl))

none_step : (b same rest rest' : Bool) → (b || rest) ≡ false → (rest ≡ false → rest' ≡ false) → ((b && same) || rest') ≡ false
none_step true same rest rest' e later = absurd (cc)
none_step false same rest rest' e later = later e

-- where no card has the key that is looked for, none of them is the card
pub stood_nowhere : (ident number : ℕ) (same : CardView → Bool) (xs : List CardView) → list_any (is_card ident number) xs ≡ false
    → list_any (λ b. is_card ident number b && same b) xs ≡ false
stood_nowhere ident number same [] e = refl
stood_nowhere ident number same (x ∷ xs) e =
    none_step (is_card ident number x) (same x) (list_any (is_card ident number) xs) _ e (stood_nowhere ident number same xs)

is_card_of : (b rest : Bool) → (b ≡ true → ⊥) → (b && rest) ≡ false
is_card_of true rest other = absurd (other refl)
is_card_of false rest other = refl

or_none : (a b : Bool) → a ≡ false → b ≡ false → (a || b) ≡ false
or_none a b e f = rw (e, f) refl

-- a card of an ident younger than all of these isn't one of them
pub none_younger : (ident number youngest : ℕ) (xs : List CardView) → youngest < ident
    → ((i : ℕ) → i < length xs → (d : CardView) → (get_or xs i d).ident ≤ youngest) → list_any (is_card ident number) xs ≡ false
none_younger ident number youngest [] young old = refl
none_younger ident number youngest (x ∷ xs) young old =
    let first : x.ident ≤ youngest = old 0 (omega arith) x in
    or_none (is_card ident number x) _ (is_card_of (x.ident == ident) (x.number == number) (λ t. let e : x.ident ≡ ident = (Decides-eqb x.ident ident).0 t in
    omega arith))
    (none_younger ident number youngest xs young (λ i within d. let p = old (i + 1) (omega arith) d in rw add-one at p))

-- ---- the cards of one deck differ where all cards do

apart_here : (age : ℕ) (d : DeckView) (ds : List DeckView) (b : Bool) → AreApart (map key_of (d.cards ++ flat_map (λ e. e.cards) ds))
    → AreApart (map key_of (option_map_or (λ e. e.cards) (find (is_deck age) ds) []))
    → AreApart (map key_of (option_map_or (λ e. e.cards) (if b then Some d else find (is_deck age) ds) []))
apart_here age d ds true h later = apart_front key_of d.cards _ h
apart_here age d ds false h later = later

apart_found : (age : ℕ) (ds : List DeckView) → AreApart (map key_of (flat_map (λ e. e.cards) ds))
    → AreApart (map key_of (option_map_or (λ e. e.cards) (find (is_deck age) ds) []))
apart_found age [] h = tt
apart_found age (d ∷ ds) h = apart_here age d ds (is_deck age d) h (apart_found age ds (apart_back key_of d.cards _ h))

-- the cards of a deck
pub apart_in_deck : (age : ℕ) (l : LibraryView) → AreApart (map key_of (all_cards l)) → AreApart (map key_of (cards_of age l))
apart_in_deck age l h = apart_found age (all_decks l) h

-- ---- histories

-- histories of two lengths aren't the same
pub other_history : (es fs : List Entry) → (length es ≡ length fs → ⊥) → same_history es fs ≡ false
other_history [] [] differ = absurd (differ refl)
other_history [] (f ∷ fs) differ = refl
other_history (e ∷ es) [] differ = refl
other_history (e ∷ es) (f ∷ fs) differ = and_right (same_entry e f) _ (other_history es fs (λ same. differ (ap suc same)))

-- ---- diffs of cards of a deck

-- decks in order of serial are found by it
deck_found : (l : LibraryView) → AreRising (map (λ d. d.ident) (all_decks l)) → AllByRecursion (λ d. cards_of d.ident l ≡ d.cards) (all_decks l)
deck_found l rising = all_by_index (all_decks l) (λ k d at. cards_of_deck l k d (rising_apart (map (λ d. d.ident) (all_decks l)) rising) at)

all_left : {A : Type 0} (P : A → Type 0) (test : A → Bool) (xs : List A) → AllByRecursion P xs → AllByRecursion P (filter test xs)
all_left P test [] all = tt
all_left P test (x ∷ xs) all = go (test x) (all_left P test xs all.1)
  where
    go : (b : Bool) → AllByRecursion P (filter test xs) → AllByRecursion P (if b then x ∷ filter test xs else filter test xs)
    go true later = (all.0, later)
    go false later = later

-- diffs of cards that are these
are_of : (cards : List CardView) (sure : Bool) (card_diffs : List CardDiffView) → AllByRecursion IsKept card_diffs
    → (sure ≡ true → AllByRecursion (Contains cards) (flat_map card_before card_diffs)) → AllByRecursion (IsOf cards sure) card_diffs
are_of cards sure [] kept inside = tt
are_of cards sure (Kept was is ∷ card_diffs) kept inside = ((kept.0, λ e. (inside e).0), are_of cards sure card_diffs kept.1 (λ e. (inside e).1))
are_of cards sure (Gone was ∷ card_diffs) kept inside = (tt, are_of cards sure card_diffs kept.1 (λ e. (inside e).1))
are_of cards sure (New is ∷ card_diffs) kept inside = (tt, are_of cards sure card_diffs kept.1 inside)

-- each card of a list is one of it
own_cards : (cards : List CardView) → AllByRecursion (Contains cards) cards
own_cards cards = all_by_index cards (λ k c at. at_contained cards k c at)

-- the diffs of each deck are of its cards, where decks are in order of serial
abbrev pub AreOf : LibraryView → Bool → DeckDiffView → Type 0
AreOf l sure k = AllByRecursion (IsOf (cards_of k.deck l) sure) k.card_diffs

found_cards : (l : LibraryView) (k : DeckDiffView) (ks : List DeckDiffView)
    → AllByRecursion (λ d. cards_of d.ident l ≡ d.cards) (standing (map deck_before (k ∷ ks)))
    → AllByRecursion (Contains (cards_of k.deck l)) (flat_map card_before k.card_diffs)
    × AllByRecursion (λ d. cards_of d.ident l ≡ d.cards) (standing (map deck_before ks))
found_cards l k ks all = go (flat_map card_before k.card_diffs) refl all
  where
    go : (cards : List CardView) → flat_map card_before k.card_diffs ≡ cards
        → AllByRecursion (λ d. cards_of d.ident l ≡ d.cards) (standing (record { ident = k.deck; cards = cards } ∷ map deck_before ks))
        → AllByRecursion (Contains (cards_of k.deck l)) (flat_map card_before k.card_diffs)
        × AllByRecursion (λ d. cards_of d.ident l ≡ d.cards) (standing (map deck_before ks))
    go [] e all = (subst (AllByRecursion (Contains (cards_of k.deck l))) (sym e) tt, all)
    go (c ∷ cs) e all = (
      subst (AllByRecursion (Contains (cards_of k.deck l))) (sym e) (subst (λ xs. AllByRecursion (Contains xs) (c ∷ cs)) (sym all.0) (own_cards
          (c ∷ cs))),
      all.1,
    )

each_are_of : (l : LibraryView) (sure : Bool) (ks : List DeckDiffView) → AllByRecursion (λ k. AllByRecursion IsKept k.card_diffs) ks
    → (sure ≡ true → AllByRecursion (λ d. cards_of d.ident l ≡ d.cards) (standing (map deck_before ks))) → AllByRecursion (AreOf l sure) ks
each_are_of l sure [] kept found = tt
each_are_of l sure (k ∷ ks) kept found = (
  are_of (cards_of k.deck l) sure k.card_diffs kept.0 (λ e. (found_cards l k ks (found e)).0),
  each_are_of l sure ks kept.1 (λ e. (found_cards l k ks
      (found e)).1),
)

pub lead_are_of : (l : LibraryView) (after : List DeckView) (ks : List DeckDiffView) (sure : Bool) → Lead (all_decks l) after ks
    → (sure ≡ true → AreRising (map (λ d. d.ident) (all_decks l))) → AllByRecursion (AreOf l sure) ks
lead_are_of l after ks sure lead rising =
    each_are_of l sure ks lead.kept (λ e. subst (AllByRecursion (λ d. cards_of d.ident l ≡ d.cards)) (sym lead.olds) (all_left _ has_cards
    (all_decks l) (deck_found l (rising e))))

-- ---- loops

-- one more serial before those that rise
pub rising_more : (n m : ℕ) (ns : List ℕ) → n < m → AreRising (m ∷ ns) → AreRising (n ∷ m ∷ ns)
rising_more n m ns less rising = ((less, below ns rising.0), rising)
  where
    below : (ks : List ℕ) → AllByRecursion (λ k. m < k) ks → AllByRecursion (λ k. n < k) ks
    below [] all = tt
    below (k ∷ ks) all = let more = all.0 in (omega arith, below ks all.1)

pub rising_step : (ds : List DeckView) (i last age : ℕ) (d : DeckView) → i < length ds → d ≡ get_or ds i d → age ≡ d.ident → last < age
    → AreRising (age ∷ map (λ d. d.ident) (drop (i + 1) ds)) → AreRising (last ∷ map (λ d. d.ident) (drop i ds))
rising_step ds i last age d within is same less rising =
    let next : drop i ds ≡ d ∷ drop (i + 1) ds = drop_more ds i d within ∙ ap (λ y. y ∷ drop (i + 1) ds) (sym is) in
    subst (λ xs. AreRising (last ∷ map (λ d. d.ident) xs)) (sym next)
    (subst (λ n. AreRising (last ∷ n ∷ map (λ d. d.ident) (drop (i + 1) ds))) same (rising_more last age (map (λ d. d.ident) (drop (i + 1) ds)) less rising))

-- one more card, where b says whether it was there with the same history
pub card_more : (idents : List Ident) (before : List CardView) (is : CardView) (rest : List CardView) (found now whole : List CardRef) (b : Bool)
    → b ≡ stood_in before is → now ≡ found ++ (if not b then ref_of idents is ∷ [] else [])
    → found ++ map (ref_of idents) (filter (λ c. not (stood_in before c)) (is ∷ rest)) ≡ whole
    → now ++ map (ref_of idents) (filter (λ c. not (stood_in before c)) rest) ≡ whole
card_more idents before is rest found now whole b says e so_far = go (stood_in before is) says so_far
  where
    go : (t : Bool) → b ≡ t
        → found ++ map (ref_of idents) (if not t then is ∷ filter (λ c. not (stood_in before c)) rest else filter (λ c. not (stood_in before c)) rest) ≡ whole
        → now ++ map (ref_of idents) (filter (λ c. not (stood_in before c)) rest) ≡ whole
    go true same so =
        ap (λ t. t ++ map (ref_of idents) (filter (λ c. not (stood_in before c)) rest))
        (e ∙ ap (λ t. found ++ (if not t then ref_of idents is ∷ [] else [])) same ∙ append-nil found) ∙ so
    go false same so =
        ap (λ t. t ++ map (ref_of idents) (filter (λ c. not (stood_in before c)) rest))
        (e ∙ ap (λ t. found ++ (if not t then ref_of idents is ∷ [] else [])) same)
        ∙ append_assoc found (ref_of idents is ∷ []) (map (ref_of idents) (filter (λ c. not (stood_in before c)) rest)) ∙ so

-- one more deck
pub deck_more : (f : DeckDiffView → List CardRef) (P : DeckDiffView → Type 0) (ks : List DeckDiffView) (i : ℕ) (k : DeckDiffView)
    (found now whole : List CardRef) → i < length ks → k ≡ get_or ks i k → AllByRecursion P (drop i ks) × (found ++ flat_map f (drop i ks) ≡ whole)
    → (P k → now ≡ found ++ f k) → AllByRecursion P (drop (i + 1) ks) × (now ++ flat_map f (drop (i + 1) ks) ≡ whole)
deck_more f P ks i k found now whole within is so_far added =
    let next : drop i ks ≡ k ∷ drop (i + 1) ks = drop_more ks i k within ∙ ap (λ y. y ∷ drop (i + 1) ks) (sym is) in
    let so = subst (λ t. AllByRecursion P t × (found ++ flat_map f t ≡ whole)) next so_far in
    (so.0.1, ap (λ t. t ++ flat_map f (drop (i + 1) ks)) (added so.0.0) ∙ append_assoc found (f k) (flat_map f (drop (i + 1) ks)) ∙ so.1)

-- all decks
pub decks_all : (idents : List Ident) (l : LibraryView) (after : List DeckView) (ks : List DeckDiffView) (i : ℕ) (found : List CardRef) → length ks ≤ i
    → found ++ flat_map (λ k. touched_in idents l (deck_after k)) (drop i ks) ≡ flat_map (λ k. touched_in idents l (deck_after k)) ks
    → Lead (all_decks l) after ks → found ≡ flat_map (touched_in idents l) after
decks_all idents l after ks i found end so_far lead =
    sym (append-nil found) ∙ ap (λ t. found ++ flat_map (λ k. touched_in idents l (deck_after k)) t) (sym (drop_all i ks end)) ∙ so_far
    ∙ same_standing (touched_in idents l) (λ d. refl) deck_after ks after lead.news
