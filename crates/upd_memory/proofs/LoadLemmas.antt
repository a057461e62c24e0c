-- The rows that are copied out of maps are those of the tables.
use Rattle.upd_memory.proofs.Common.{◌≡◌, ℕ, ◌+◌, ◌≤◌, ◌==◌, Bool, true, false, cond, List, [], ◌∷◌, ◌++◌, map, refl, ap, sym, ◌∙◌, subst, arith, append-nil}
use Rattle.upd_memory.proofs.Common.{◌&&◌, ◌||◌, BTreeMap, IsOrdered, tied_itself, count_by, filter, flat_map, list_any, IsPermutation, is_eq, nat_cmp, Vec}
use Rattle.upd_memory.proofs.Common.{nat_cmp_total, filter-append, exact_unsigned, by_name, CardRef, is_among, count_cons, same_of, CardRow, EntryRow, IsSame}
use Rattle.upd_memory.proofs.Common.{same_ref, any_same, is_asked, is_loaded, is_of, AreCards, AreEntries, AreHomes, entries_at, is_home, filter_twice}
use Rattle.upd_memory.proofs.Common.{same_by_key}
use Rattle.std.specs.Cmp.{unsigned_tied}
use Rattle.std.specs.List.{sum_by}
use Rattle.std.proofs.lemmas.List.Sorted.{sum_by-IsPermutation}
use Rattle.std.proofs.lemmas.List.Sums.{sum_by-cons}
use Rattle.std.proofs.lemmas.List.Folds.{flat_map-map}
use Rattle.upd_records.proofs.CountLemmas.{count_append}
use Rattle.upd_row_store.specs.Asked.{AreDecksOf}
use Rattle.upd_row_store.specs.PartRows.{AreOfDistinctCards}
use Rattle.upd_records.proofs.ByKeyLemmas.{count_split}
use Rattle.upd_memory.proofs.MapRowsLemmas.{all_same, flat_same, none_both, own_key}
use Rattle.upd_memory.proofs.KeyedLemmas.{filter_alike}
use Rattle.upd_memory.proofs.NameOrderLemmas.{one_ref, refs_exact, refs_total, same_by_order, turned}

-- ---- cards

by_deck : (d : ℕ) (r : CardRow) → (r.deck == d) ≡ is_eq (nat_cmp d r.deck)
by_deck d r = flip r.deck d ∙ sym (unsigned_tied d r.deck)
  where
    flip : (a b : ℕ) → (a == b) ≡ (b == a)
    flip a b = grind arith

pub cards_all : {Z : Type 0} (decks : BTreeMap ℕ (Vec CardRow Z)) (rows : List CardRow) → IsOrdered nat_cmp decks → AreCards decks rows
    → IsSame (flat_map (λ e. e.1.items) decks.entries) rows
cards_all decks rows up are = all_same nat_cmp_total exact_unsigned (λ r. r.deck) (λ d r. r.deck == d) by_deck (λ d v. v.items) decks rows up are

pub cards_part : {Z : Type 0} (ages : List ℕ) (decks : BTreeMap ℕ (Vec CardRow Z)) (rows : List CardRow) → IsOrdered nat_cmp decks
    → AreCards decks rows
    → IsSame (flat_map (λ e. cond (is_loaded ages e.0) e.1.items []) decks.entries) (filter (λ r. is_loaded ages r.deck) rows)
cards_part ages decks rows up are =
    flat_same nat_cmp_total exact_unsigned (λ r. r.deck) (λ d r. r.deck == d) by_deck (λ d v. v.items) (is_loaded ages) decks rows up are

-- ---- entries

pub entries_all : {Z : Type 0} (entries : BTreeMap CardRef (Vec EntryRow Z)) (rows : List EntryRow) → IsOrdered by_name entries
    → AreEntries entries rows
    → IsSame (flat_map (λ e. e.1.items) entries.entries) rows
entries_all entries rows up are =
    all_same refs_total refs_exact (λ r. r.card) (λ c r. same_ref c r.card) (λ c r. same_by_order c r.card) (λ c v. v.items) entries rows up are

ref_sym : (a b : CardRef) → same_ref a b ≡ same_ref b a
ref_sym a b = same_by_order a b ∙ turned a b

ref_own : (a : CardRef) → same_ref a a ≡ true
ref_own a = same_by_order a a ∙ ap is_eq (tied_itself refs_total a)

none_among : (c : CardRef) (cards : List CardRow) → count_by (λ r. same_ref c r.card) cards ≡ 0 → list_any (λ r. same_ref r.card c) cards ≡ false
none_among c [] none = refl
none_among c (x ∷ cards) none = go (same_ref c x.card) refl (none_among c cards)
  where
    go : (b : Bool) → same_ref c x.card ≡ b → (count_by (λ r. same_ref c r.card) cards ≡ 0 → list_any (λ r. same_ref r.card c) cards ≡ false)
        → (same_ref x.card c || list_any (λ r. same_ref r.card c) cards) ≡ false
    go true e rest = absurd (let one : count_by (λ r. same_ref c r.card) (x ∷ cards) ≡ 1 + count_by (λ r. same_ref c r.card) cards =
        count_cons (λ r. same_ref c r.card) x cards ∙ ap (λ b. cond b 1 0 + count_by (λ r. same_ref c r.card) cards) e in omega (arith, one, none))
    go false e rest = ap (λ b. b || list_any (λ r. same_ref r.card c) cards) (ref_sym x.card c ∙ e)
        ∙ rest (let zero : count_by (λ r. same_ref c r.card) (x ∷ cards) ≡ 0 + count_by (λ r. same_ref c r.card) cards =
        count_cons (λ r. same_ref c r.card) x cards ∙ ap (λ b. cond b 1 0 + count_by (λ r. same_ref c r.card) cards) e in omega (arith, zero, none))

module _ {Z : Type 0} (entries : BTreeMap CardRef (Vec EntryRow Z)) (all : List EntryRow) (are : AreEntries entries all) where
  own : (card : CardRef) → filter (λ r. same_ref card r.card) (entries_at entries card) ≡ entries_at entries card
  own card = own_key (λ r. same_ref card r.card) (entries_at entries card) all (are card)

  -- of cards of which none comes twice, the entries of one card
  of_one : (c : CardRef) (cards : List CardRow) → count_by (λ r. same_ref c r.card) cards ≤ 1
      → filter (λ r. same_ref c r.card) (flat_map (λ r. entries_at entries r.card) cards)
      ≡ cond (list_any (λ r. same_ref r.card c) cards) (entries_at entries c) []
  of_one c [] few = refl
  of_one c (x ∷ cards) few =
      filter-append (λ r. same_ref c r.card) (entries_at entries x.card) (flat_map (λ r. entries_at entries r.card) cards)
      ∙ go (same_ref c x.card) refl (of_one c cards (let more = count_cons (λ r. same_ref c r.card) x cards in omega (arith, more, few)))
    where
      rest : List EntryRow
      rest = filter (λ r. same_ref c r.card) (flat_map (λ r. entries_at entries r.card) cards)

      go : (b : Bool) → same_ref c x.card ≡ b
          → filter (λ r. same_ref c r.card) (flat_map (λ r. entries_at entries r.card) cards)
          ≡ cond (list_any (λ r. same_ref r.card c) cards) (entries_at entries c) []
          → filter (λ r. same_ref c r.card) (entries_at entries x.card) ++ filter (λ r. same_ref c r.card) (flat_map
          (λ r. entries_at entries r.card) cards)
          ≡ cond (same_ref x.card c || list_any (λ r. same_ref r.card c) cards) (entries_at entries c) []
      go true e later =
          let one : c ≡ x.card = one_ref c x.card e in
          let alone : list_any (λ r. same_ref r.card c) cards ≡ false = none_among c cards
          (let more : count_by (λ r. same_ref c r.card) (x ∷ cards) ≡ 1 + count_by (λ r. same_ref c r.card) cards =
          count_cons (λ r. same_ref c r.card) x cards ∙ ap (λ b. cond b 1 0 + count_by (λ r. same_ref c r.card) cards) e in omega
          (arith, more, few)) in
          (λ i. filter (λ r. same_ref c r.card) (entries_at entries (sym one i))
          ++ (later ∙ ap (λ b. cond b (entries_at entries c) []) alone) i) ∙ append-nil (filter (λ r. same_ref c r.card) (entries_at entries c))
          ∙ own c
          ∙ sym (ap (λ b. cond (b || list_any (λ r. same_ref r.card c) cards) (entries_at entries c) []) (ref_sym x.card c ∙ e))
      go false e later =
          ap (λ xs. xs ++ filter (λ r. same_ref c r.card) (flat_map (λ r. entries_at entries r.card) cards))
          (ap (filter (λ r. same_ref c r.card)) (sym (own x.card))
          ∙ none_both (λ r. same_ref c r.card) (λ r. same_ref x.card r.card) (entries_at entries x.card)
          (λ r hit. ap (same_ref c) (sym (one_ref x.card r.card hit)) ∙ e))
          ∙ later ∙ sym (ap (λ b. cond (b || list_any (λ r. same_ref r.card c) cards) (entries_at entries c) []) (ref_sym x.card c ∙ e))

  pub entries_part : (cards loaded : List CardRow) → IsSame cards loaded → AreOfDistinctCards loaded
      → IsSame (flat_map (λ r. entries_at entries r.card) cards) (filter (is_of loaded) all)
  entries_part cards loaded same apart = same_by_key (λ c r. same_ref c r.card) (λ r. r.card) (λ r. ref_own r.card) _ _ each
    where
      each : (c : CardRef) → IsSame (filter (λ r. same_ref c r.card) (flat_map (λ r. entries_at entries r.card) cards))
          (filter (λ r. same_ref c r.card) (filter (is_of loaded) all))
      each c =
          subst (λ xs. IsSame xs (filter (λ r. same_ref c r.card) (filter (is_of loaded) all)))
          (sym (of_one c cards (let count = same.passes (λ r. same_ref c r.card) in let most = apart c in omega (arith, count, most))
          ∙ ap (λ b. cond b (entries_at entries c) []) (any_same (λ r. same_ref r.card c) same)))
          (subst (IsSame (cond (list_any (λ r. same_ref r.card c) loaded) (entries_at entries c) []))
          (sym (filter_twice (λ r. same_ref c r.card) (is_of loaded) all ∙ filter_alike (is_of loaded) (λ r. same_ref c r.card)
          (list_any (λ r. same_ref r.card c) loaded) (λ r hit. ap (λ card. list_any (λ x. same_ref x.card card) loaded) (sym
          (one_ref c r.card hit))) all))
          (go (list_any (λ r. same_ref r.card c) loaded)))
        where
          go : (b : Bool) → IsSame (cond b (entries_at entries c) []) (cond b (filter (λ r. same_ref c r.card) all) [])
          go true = are c
          go false = same_of [] [] refl

-- ---- lists in another order

count_flat : {A B : Type 0} (test : B → Bool) (f : A → List B) (xs : List A) → count_by test (flat_map f xs) ≡ sum_by (λ x. count_by test (f x)) xs
count_flat test f [] = refl
count_flat test f (x ∷ xs) = count_append test (f x) (flat_map f xs) ∙ ap (λ n. count_by test (f x) + n) (count_flat test f xs)
    ∙ sym (sum_by-cons (λ y. count_by test (f y)) x xs)

-- a list in another order
pub same_moved : {A : Type 0} (xs ys : List A) → IsPermutation xs ys → IsSame ys xs
same_moved xs ys moved = record { passes = λ test. sum_by-IsPermutation (λ x. cond (test x) 1 0) xs ys moved }

-- what is made of one element after the other, in another order
pub same_in_turn : {A B C : Type 0} (f : B → List C) (g : A → B) (xs : List A) (ys : List B) → IsPermutation (map g xs) ys
    → IsSame (flat_map f ys) (flat_map (λ x. f (g x)) xs)
same_in_turn f g xs ys moved = record {
  passes = λ test.
      count_flat test f ys ∙ sum_by-IsPermutation (λ y. count_by test (f y)) (map g xs) ys moved ∙ sym (count_flat test f (map g xs))
      ∙ ap (count_by test) (flat_map-map f g xs);
}

-- no card comes twice among some of the cards
pub still_distinct : (keep : CardRow → Bool) (rows : List CardRow) → AreOfDistinctCards rows → AreOfDistinctCards (filter keep rows)
still_distinct keep rows apart card =
    let most = apart card in
    let split = count_split (λ r. same_ref card r.card) keep rows in
    omega (arith, most, split)

-- ---- decks

module _ (d : ℕ) where
  none_asked : (rows : List CardRow) → false ≡ list_any (λ r. (r.deck == d) && false) rows
  none_asked [] = refl
  none_asked (r ∷ rows) = none_asked rows ∙ ap (λ b. b || list_any (λ x. (x.deck == d) && false) rows) (and_false (r.deck == d))
    where
      and_false : (b : Bool) → false ≡ (b && false)
      and_false true = refl
      and_false false = refl

  one_of_two : (f g : CardRow → Bool) (rows : List CardRow) → (list_any f rows || list_any g rows) ≡ list_any (λ r. f r || g r) rows
  one_of_two f g [] = refl
  one_of_two f g (r ∷ rows) = swap (f r) (g r) (list_any f rows) (list_any g rows) ∙ ap (λ b. (f r || g r) || b) (one_of_two f g rows)
    where
      swap : (a b x y : Bool) → ((a || x) || (b || y)) ≡ ((a || b) || (x || y))
      swap true b x y = refl
      swap false true true y = refl
      swap false true false y = refl
      swap false false x y = refl

  any_asked : (cards : List CardRef) (rows : List CardRow)
      → list_any (λ c. list_any (λ r. (r.deck == d) && same_ref c r.card) rows) cards ≡ list_any (λ r. (r.deck == d) && is_asked cards r.card) rows
  any_asked [] rows = none_asked rows
  any_asked (c ∷ cards) rows =
      ap (λ b. list_any (λ r. (r.deck == d) && same_ref c r.card) rows || b) (any_asked cards rows)
      ∙ one_of_two (λ r. (r.deck == d) && same_ref c r.card) (λ r. (r.deck == d) && is_asked cards r.card) rows
      ∙ ap (λ (f : CardRow → Bool). list_any f rows) (λ i r. both (r.deck == d) (same_ref c r.card) (is_asked cards r.card) i)
    where
      both : (a b c : Bool) → ((a && b) || (a && c)) ≡ (a && (b || c))
      both true b c = refl
      both false b c = refl

pub homes_are : (homes : BTreeMap CardRef ℕ) (rows : List CardRow) (cards : List CardRef) (ages : List ℕ) → AreHomes homes rows
    → ((d : ℕ) → is_among ages d ≡ list_any (λ c. is_home homes c d) cards) → AreDecksOf cards rows ages
homes_are homes rows cards ages are of d =
    of d ∙ ap (λ (f : CardRef → Bool). list_any f cards) (λ i c. are c d i) ∙ any_asked d cards rows
