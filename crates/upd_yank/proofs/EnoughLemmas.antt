-- A status update is the same on a part of a library as on the whole, where the decks left out are idle.
use Rattle.upd_yank.proofs.Common.{◌≡◌, ◌+◌, Bool, true, false, not, cond, List, [], ◌∷◌, ◌++◌, map, length, None, inl, inr, refl, ap, sym, ◌∙◌, subst, arith}
use Rattle.upd_yank.proofs.Common.{filter, flat_map, AllByRecursion, filter-append, sum_by-cons, all_back, all_front, Serial, CountedCardView, counted_card}
use Rattle.upd_yank.proofs.Common.{others_of, yanks_of, Ident, Rest, CardView, DeckView, LibraryView, part, status_of, live_count, CardRef, is_touched, is_due}
use Rattle.upd_core.specs.Parts.{cards_of_decks, entries_of_decks}
use Rattle.upd_yank.specs.Enough.{IsEnough}

-- the cards of decks with their references
abbrev cards_with : List Ident → List DeckView → List CountedCardView
cards_with idents ds = flat_map (λ d. map (counted_card idents d.ident) d.cards) ds

-- ---- without decks in which no card passes a test, the same cards pass it

none_of_deck : (test : CountedCardView → Bool) (out : Serial → Bool) (idents : List Ident) (age : Serial) (cs : List CardView) → out age ≡ true →
    AllByRecursion (λ k. out k.deck ≡ false) (filter test (map (counted_card idents age) cs)) → filter test (map (counted_card idents age) cs) ≡ []
none_of_deck test out idents age [] is all = refl
none_of_deck test out idents age (c ∷ cs) is all = go (test (counted_card idents age c)) refl (none_of_deck test out idents age cs is)
  where
    rest : List CountedCardView
    rest = filter test (map (counted_card idents age) cs)

    go : (b : Bool) → test (counted_card idents age c) ≡ b → (AllByRecursion (λ k. out k.deck ≡ false) rest → rest ≡ []) →
        filter test (map (counted_card idents age) (c ∷ cs)) ≡ []
    go true e later = let here = rw e at all in absurd (let q = sym is ∙ here.0 in cc)
    go false e later = rw e (later (rw e at all))

same_pass : (test : CountedCardView → Bool) (out : Serial → Bool) (idents : List Ident) (ds : List DeckView) →
    AllByRecursion (λ k. out k.deck ≡ false) (filter test (cards_with idents ds)) →
    filter test (cards_with idents (filter (λ (d : DeckView). not (out d.ident)) ds)) ≡ filter test (cards_with idents ds)
same_pass test out idents [] all = refl
same_pass test out idents (d ∷ ds) all = go (out d.ident) refl (same_pass test out idents ds both.1)
  where
    here : List CountedCardView
    here = map (counted_card idents d.ident) d.cards

    kept : List DeckView
    kept = filter (λ (d : DeckView). not (out d.ident)) ds

    parts : filter test (here ++ cards_with idents ds) ≡ filter test here ++ filter test (cards_with idents ds)
    parts = filter-append test here (cards_with idents ds)

    both : AllByRecursion (λ k. out k.deck ≡ false) (filter test here) × AllByRecursion (λ k. out k.deck ≡ false) (filter test (cards_with idents ds))
    both =
        let split = subst (AllByRecursion (λ k. out k.deck ≡ false)) parts all in (
          all_front (λ k. out k.deck ≡ false) (filter test here) (filter test (cards_with idents ds)) split,
          all_back (λ k. out k.deck ≡ false) (filter test here) (filter test (cards_with idents ds)) split,
        )

    go : (b : Bool) → out d.ident ≡ b → filter test (cards_with idents kept) ≡ filter test (cards_with idents ds) →
        filter test (cards_with idents (cond (not (out d.ident)) (d ∷ kept) kept)) ≡ filter test (here ++ cards_with idents ds)
    go true e later =
        ap (λ b. filter test (cards_with idents (cond (not b) (d ∷ kept) kept))) e ∙ later
        ∙ sym (parts ∙ ap (λ ks. ks ++ filter test (cards_with idents ds)) (none_of_deck test out idents d.ident d.cards e both.0))
    go false e later =
        ap (λ b. filter test (cards_with idents (cond (not b) (d ∷ kept) kept))) e ∙ filter-append test here (cards_with idents kept)
        ∙ ap (λ ks. filter test here ++ ks) later ∙ sym parts

-- ---- without decks that have no cards, the cards are the same

no_cards : (cs : List CardView) → length cs ≡ 0 → cs ≡ []
no_cards [] e = refl
no_cards (c ∷ cs) e = absurd (omega (arith, e))

same_cards : (out : Serial → Bool) (idents : List Ident) (ds : List DeckView) → cards_of_decks (filter (λ (d : DeckView). out d.ident) ds) ≡ 0 →
    cards_with idents (filter (λ (d : DeckView). not (out d.ident)) ds) ≡ cards_with idents ds
same_cards out idents [] none = refl
same_cards out idents (d ∷ ds) none = go (out d.ident) refl (same_cards out idents ds)
  where
    kept : List DeckView
    kept = filter (λ (d : DeckView). not (out d.ident)) ds

    gone : List DeckView
    gone = filter (λ (d : DeckView). out d.ident) ds

    go : (b : Bool) → out d.ident ≡ b → (cards_of_decks gone ≡ 0 → cards_with idents kept ≡ cards_with idents ds) →
        cards_with idents (cond (not (out d.ident)) (d ∷ kept) kept) ≡ cards_with idents (d ∷ ds)
    go true e later =
        let counted : cards_of_decks (d ∷ gone) ≡ 0 = sym (ap (λ b. cards_of_decks (cond b (d ∷ gone) gone)) e) ∙ none in
        let sum = sum_by-cons (λ (d : DeckView). length d.cards) d gone in
        let empty : d.cards ≡ [] = no_cards d.cards (omega (arith, counted, sum)) in
        ap (λ b. cards_with idents (cond (not b) (d ∷ kept) kept)) e ∙ later (omega (arith, counted, sum))
        ∙ sym (ap (λ cs. map (counted_card idents d.ident) cs ++ cards_with idents ds) empty)
    go false e later =
        ap (λ b. cards_with idents (cond (not b) (d ∷ kept) kept)) e
        ∙ ap (λ ks. map (counted_card idents d.ident) d.cards ++ ks)
        (later (sym (ap (λ b. cards_of_decks (cond b (d ∷ gone) gone)) e) ∙ none))

-- ---- what a status update sees

-- a library on which a status update sees what it sees on the library after the run
pub record Sees (run : List CardRef) (old new l : LibraryView) : Type 0 where
  pub idents : l.idents ≡ new.idents
  pub yanks : l.yanks ≡ new.yanks
  pub due : filter (is_due (is_touched run) (live_count old) (live_count new)) (others_of l)
      ≡ filter (is_due (is_touched run) (live_count old) (live_count new)) (others_of new)
  pub others : l.rest.cards ≡ 0 → others_of l ≡ others_of new
  pub staying : (l.rest.cards ≡ 0 → ⊥) → (card : CardRef) → status_of card new ≡ None → status_of card old ≡ None

pub sees : (run : List CardRef) (old new l : LibraryView) → IsEnough run old new l → Sees run old new l
sees run old new l (inl whole) = subst (Sees run old new) (sym whole.0) (record {
  idents = refl;
  yanks = refl;
  due = refl;
  others = λ _. refl;
  staying = λ some. absurd (some (ap (λ (r : Rest). r.cards) whole.1));
})
sees run old new l (inr (out, is, idle)) = subst (Sees run old new) (sym is) (record {
  idents = refl;
  yanks = refl;
  due = same_pass due out new.idents new.decks
      (all_back (λ k. out k.deck ≡ false) (filter due (yanks_of new)) (filter due (others_of new))
      (subst (AllByRecursion (λ k. out k.deck ≡ false)) (filter-append due (yanks_of new) (others_of new)) idle.unaffected));
  others = λ none. same_cards out new.idents new.decks (omega (arith, none));
  staying = λ _. idle.staying;
})
  where
    due : CountedCardView → Bool
    due = is_due (is_touched run) (live_count old) (live_count new)

-- each library is the part of itself without no deck
pub part_of_none : (l : LibraryView) → l ≡ part (λ _. false) l
part_of_none l =
    let all = every l.decks in
    let none = nothing l.decks in
    let cards : l.rest.cards ≡ l.rest.cards + cards_of_decks (filter (λ (d : DeckView). false) l.decks) =
    omega (arith, ap cards_of_decks none) in
    let entries : l.rest.entries ≡ l.rest.entries + entries_of_decks (filter (λ (d : DeckView). false) l.decks) =
    omega (arith, ap entries_of_decks none) in
    λ i. record l { decks = all i; rest = record { cards = cards i; entries = entries i } }
  where
    every : (ds : List DeckView) → ds ≡ filter (λ (d : DeckView). true) ds
    every [] = refl
    every (d ∷ ds) = ap (λ x. d ∷ x) (every ds)

    nothing : (ds : List DeckView) → [] ≡ filter (λ (d : DeckView). false) ds
    nothing [] = refl
    nothing (d ∷ ds) = nothing ds
