-- What is found in a part of a library, what is counted in it, and how it is changed: as in the whole.
use Rattle.upd_partial.proofs.Common.{◌≡◌, ℕ, ◌+◌, Bool, true, false, not, cond, List, [], ◌∷◌, ◌++◌, length, Option, Some, None, refl, sym, ap, ◌∙◌, arith}
use Rattle.upd_partial.proofs.Common.{filter-append, sum_by-cons, ◌==◌, sum_by, filter, find, AllByRecursion, option_map_or, CardRef, Place, index_from}
use Rattle.upd_partial.proofs.Common.{CardView, DeckView, LibraryView, all_decks, cards_of, is_card, is_deck, place_in, place_of, card_count, entry_count}
use Rattle.upd_partial.proofs.Common.{is_within_limits, cards_of_decks, entries_of_decks, part, same_number, cards_of_item, left_out, LineView}
use Rattle.std.proofs.lemmas.List.{append-nil}
use Rattle.std.proofs.lemmas.List.Filters.{sum_by-filter_both}
use Rattle.upd_core.specs.First.{at_first}
use Rattle.upd_core.specs.Edits.{with_deck}
use Rattle.upd_core.specs.Library.{ident_of, with_cards}

abbrev pub kept_of : (ℕ → Bool) → List DeckView → List DeckView
kept_of out ds = filter (λ d. not (out d.ident)) ds

abbrev pub left_of : (ℕ → Bool) → List DeckView → List DeckView
left_of out ds = filter (λ d. out d.ident) ds

-- a reference names no card of these decks
abbrev pub IsNotIn : List DeckView → LibraryView → CardRef → Type 0
IsNotIn decks l card = (z : ℕ) → ident_of card.name l ≡ Some z → place_in decks z card.number ≡ None

-- a run names no card of these decks
abbrev pub AreNotIn : List DeckView → LibraryView → List LineView → Type 0
AreNotIn decks l lines = AllByRecursion (λ line. AllByRecursion (IsNotIn decks l) (cards_of_item line.item)) lines

-- ---- places

-- a card of no deck that is left out is found where it is
place_kept : (out : ℕ → Bool) (ds : List DeckView) (z n : ℕ) → place_in (left_of out ds) z n ≡ None → place_in (kept_of out ds) z n ≡ place_in ds z n
place_kept out [] z n none = refl
place_kept out (d ∷ ds) z n none = go (out d.ident) refl (index_from (is_card z n) 0 d.cards) refl (place_kept out ds z n)
  where
    go : (b : Bool) → out d.ident ≡ b → (o : Option ℕ) → index_from (is_card z n) 0 d.cards ≡ o
        → (place_in (left_of out ds) z n ≡ None → place_in (kept_of out ds) z n ≡ place_in ds z n)
        → place_in (kept_of out (d ∷ ds)) z n ≡ place_in (d ∷ ds) z n
    go true e (Some i) f later = absurd (let bad = rw (e, f) at none in cc)
    go true e None f later = rw (e, f) (later (rw (e, f) at none))
    go false e (Some i) f later = rw (e, f) refl
    go false e None f later = rw (e, f) (later (rw e at none))

-- and its deck isn't left out
place_in_kept : (out : ℕ → Bool) (ds : List DeckView) (z n : ℕ) (p : Place) → place_in (left_of out ds) z n ≡ None → place_in ds z n ≡ Some p
    → out p.deck ≡ false
place_in_kept out [] z n p none found = absurd (cc)
place_in_kept out (d ∷ ds) z n p none found = go (out d.ident) refl (index_from (is_card z n) 0 d.cards) refl (place_in_kept out ds z n p)
  where
    go : (b : Bool) → out d.ident ≡ b → (o : Option ℕ) → index_from (is_card z n) 0 d.cards ≡ o
        → (place_in (left_of out ds) z n ≡ None → place_in ds z n ≡ Some p → out p.deck ≡ false) → out p.deck ≡ false
    go true e (Some i) f later = absurd (let bad = rw (e, f) at none in cc)
    go true e None f later = later (rw (e, f) at none) (rw f at found)
    go false e (Some i) f later = let same : d.ident ≡ p.deck = (let h = rw f at found in cc) in rw (sym same) e
    go false e None f later = later (rw e at none) (rw f at found)

pub kept_all : (out : ℕ → Bool) (l : LibraryView) → out 0 ≡ false → all_decks (part out l) ≡ kept_of out (all_decks l)
kept_all out l yanks = rw yanks refl

pub place_same : (out : ℕ → Bool) (l : LibraryView) (card : CardRef) → out 0 ≡ false → IsNotIn (left_out out l) l card
    → place_of card (part out l) ≡ place_of card l
place_same out l card yanks none = go (ident_of card.name l) refl
  where
    go : (o : Option ℕ) → ident_of card.name l ≡ o → place_of card (part out l) ≡ place_of card l
    go None e = rw e refl
    go (Some z) e =
        rw e (ap (λ ds. place_in ds z card.number) (kept_all out l yanks) ∙ place_kept out (all_decks l) z card.number (none z e))

pub deck_kept : (out : ℕ → Bool) (l : LibraryView) (card : CardRef) (p : Place) → IsNotIn (left_out out l) l card → place_of card l ≡ Some p
    → out p.deck ≡ false
deck_kept out l card p none found = go (ident_of card.name l) refl
  where
    go : (o : Option ℕ) → ident_of card.name l ≡ o → out p.deck ≡ false
    go None e = absurd (let bad = rw e at found in cc)
    go (Some z) e = place_in_kept out (all_decks l) z card.number p (none z e) (rw e at found)

-- ---- a deck that isn't left out

find_kept : (out : ℕ → Bool) (d : ℕ) (ds : List DeckView) → out d ≡ false → find (is_deck d) (kept_of out ds) ≡ find (is_deck d) ds
find_kept out d [] stays = refl
find_kept out d (e ∷ ds) stays = go (out e.ident) refl (e.ident == d) refl (find_kept out d ds stays)
  where
    go : (b : Bool) → out e.ident ≡ b → (c : Bool) → (e.ident == d) ≡ c → find (is_deck d) (kept_of out ds) ≡ find (is_deck d) ds
        → find (is_deck d) (kept_of out (e ∷ ds)) ≡ find (is_deck d) (e ∷ ds)
    go true o true is later = absurd (let same = same_number e.ident d is in let bad : out e.ident ≡ false = rw same stays in cc)
    go true o false is later = rw (o, is) later
    go false o true is later = rw (o, is) refl
    go false o false is later = rw (o, is) later

pub cards_same : (out : ℕ → Bool) (d : ℕ) (l : LibraryView) → out d ≡ false → cards_of d (part out l) ≡ cards_of d l
cards_same out d l stays = go (0 == d)
  where
    cards_in : Bool → List DeckView → List CardView
    cards_in own ds = option_map_or (λ (e : DeckView). e.cards) (cond own (Some (record { ident = 0; cards = l.yanks })) (find (is_deck d) ds)) []

    go : (b : Bool) → cards_in b (kept_of out l.decks) ≡ cards_in b l.decks
    go true = refl
    go false = rw (find_kept out d l.decks stays) refl

-- the decks with the cards of one changed
abbrev changed_in : ℕ → (List CardView → List CardView) → List DeckView → List DeckView
changed_in d f ds = at_first (is_deck d) (λ e. record e { cards = f e.cards }) ds

first_kept : (out : ℕ → Bool) (d : ℕ) (f : List CardView → List CardView) (ds : List DeckView) → out d ≡ false
    → changed_in d f (kept_of out ds) ≡ kept_of out (changed_in d f ds)
first_kept out d f [] stays = refl
first_kept out d f (e ∷ ds) stays = go (out e.ident) refl (e.ident == d) refl (first_kept out d f ds stays)
  where
    go : (b : Bool) → out e.ident ≡ b → (c : Bool) → (e.ident == d) ≡ c → changed_in d f (kept_of out ds) ≡ kept_of out (changed_in d f ds)
        → changed_in d f (kept_of out (e ∷ ds)) ≡ kept_of out (changed_in d f (e ∷ ds))
    go true o true is later = absurd (let same = same_number e.ident d is in let bad : out e.ident ≡ false = rw same stays in cc)
    go true o false is later = rw (o, is) (rw o later)
    go false o true is later = rw (o, is) (rw o refl)
    go false o false is later = rw (o, is) (rw o (ap (λ xs. e ∷ xs) later))

first_left : (out : ℕ → Bool) (d : ℕ) (f : List CardView → List CardView) (ds : List DeckView) → out d ≡ false
    → left_of out (changed_in d f ds) ≡ left_of out ds
first_left out d f [] stays = refl
first_left out d f (e ∷ ds) stays = go (out e.ident) refl (e.ident == d) refl (first_left out d f ds stays)
  where
    go : (b : Bool) → out e.ident ≡ b → (c : Bool) → (e.ident == d) ≡ c → left_of out (changed_in d f ds) ≡ left_of out ds
        → left_of out (changed_in d f (e ∷ ds)) ≡ left_of out (e ∷ ds)
    go true o true is later = absurd (let same = same_number e.ident d is in let bad : out e.ident ≡ false = rw same stays in cc)
    go true o false is later = rw (o, is) (rw o (ap (λ xs. e ∷ xs) later))
    go false o true is later = rw (o, is) (rw o refl)
    go false o false is later = rw (o, is) (rw o later)

-- cards of a deck that isn't left out are changed in the part as in the whole
pub with_cards_same : (out : ℕ → Bool) (d : ℕ) (f : List CardView → List CardView) (l : LibraryView) → out d ≡ false
    → with_cards d f (part out l) ≡ part out (with_cards d f l)
with_cards_same out d f l stays = go (d == 0) refl
  where
    decks : List DeckView
    decks = at_first (is_deck d) (λ e. record e { cards = f e.cards }) l.decks

    go : (b : Bool) → (d == 0) ≡ b → with_cards d f (part out l) ≡ part out (with_cards d f l)
    go true e = rw e refl
    go false e =
        rw e (λ i. record {
          idents = l.idents;
          decks = first_kept out d f l.decks stays i;
          yanks = l.yanks;
          rest = record {
            cards = l.rest.cards + cards_of_decks (sym (first_left out d f l.decks stays) i);
            entries = l.rest.entries + entries_of_decks (sym (first_left out d f l.decks stays) i);
          };
        })

-- and what is left out stays as it is
pub with_cards_left : (out : ℕ → Bool) (d : ℕ) (f : List CardView → List CardView) (l : LibraryView) → out d ≡ false
    → left_out out (with_cards d f l) ≡ left_out out l
with_cards_left out d f l stays = go (d == 0) refl
  where
    go : (b : Bool) → (d == 0) ≡ b → left_out out (with_cards d f l) ≡ left_out out l
    go true e = let none : out 0 ≡ false = rw (sym (same_number d 0 e)) stays in rw (e, none) refl
    go false e = rw e (ap (λ ds. cond (out 0) (record { ident = 0; cards = l.yanks } ∷ ds) ds) (first_left out d f l.decks stays))

-- ---- a deck at the end that isn't left out

end_left : (out : ℕ → Bool) (d : DeckView) (ds : List DeckView) → out d.ident ≡ false → left_of out (ds ++ d ∷ []) ≡ left_of out ds
end_left out d ds stays =
    filter-append (λ (e : DeckView). out e.ident) ds (d ∷ []) ∙ ap (λ xs. left_of out ds ++ xs) (none_left out d stays) ∙ append-nil (left_of out ds)
  where
    none_left : (out : ℕ → Bool) (d : DeckView) → out d.ident ≡ false → left_of out (d ∷ []) ≡ []
    none_left out d stays = rw stays refl

pub with_deck_left : (out : ℕ → Bool) (d : DeckView) (l : LibraryView) → out d.ident ≡ false → left_out out (with_deck d l) ≡ left_out out l
with_deck_left out d l stays = end_left out d (all_decks l) stays

pub with_deck_same : (out : ℕ → Bool) (d : DeckView) (l : LibraryView) → out d.ident ≡ false → with_deck d (part out l) ≡ part out (with_deck d l)
with_deck_same out d l stays = λ i. record {
  idents = l.idents;
  decks = sym (filter-append (λ (e : DeckView). not (out e.ident)) l.decks (d ∷ []) ∙ ap (λ xs. kept_of out l.decks ++ xs) (one_kept out d stays)) i;
  yanks = l.yanks;
  rest = record {
    cards = l.rest.cards + cards_of_decks (sym (end_left out d l.decks stays) i);
    entries = l.rest.entries + entries_of_decks (sym (end_left out d l.decks stays) i);
  };
}
  where
    one_kept : (out : ℕ → Bool) (d : DeckView) → out d.ident ≡ false → kept_of out (d ∷ []) ≡ d ∷ []
    one_kept out d stays = rw stays refl

-- ---- counts

twice : (b : Bool) → b ≡ not (not b)
twice true = refl
twice false = refl

cards_counted : (out : ℕ → Bool) (l : LibraryView) → card_count (part out l) ≡ card_count l
cards_counted out l =
    let all = sum_by-filter_both (λ (d : DeckView). not (out d.ident)) (λ d. out d.ident) (λ d. twice (out d.ident)) (λ d. length d.cards) l.decks in
    omega (
      arith,
      all,
      sum_by-cons (λ (d : DeckView). length d.cards) (record { ident = 0; cards = l.yanks }) l.decks,
      sum_by-cons (λ (d : DeckView). length d.cards) (record { ident = 0; cards = l.yanks }) (kept_of out l.decks),
    )

entries_counted : (out : ℕ → Bool) (l : LibraryView) → entry_count (part out l) ≡ entry_count l
entries_counted out l =
    let size : DeckView → ℕ = λ d. sum_by (λ (c : CardView). length c.history) d.cards in
    let all = sum_by-filter_both (λ (d : DeckView). not (out d.ident)) (λ d. out d.ident) (λ d. twice (out d.ident)) size l.decks in
    omega (
      arith,
      all,
      sum_by-cons size (record { ident = 0; cards = l.yanks }) l.decks,
      sum_by-cons size (record { ident = 0; cards = l.yanks }) (kept_of out l.decks),
    )

pub limits_same : (out : ℕ → Bool) (l : LibraryView) → is_within_limits (part out l) ≡ is_within_limits l
limits_same out l = rw (cards_counted out l, entries_counted out l) refl
