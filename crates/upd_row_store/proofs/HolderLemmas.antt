-- Which decks hold cards that are asked for, as the rows of cards tell it.
use Rattle.upd_row_store.proofs.Common.{◌≡◌, ℕ, suc, ◌+◌, ◌<◌, ◌≤◌, ◌==◌, Bool, true, false, not, ◌&&◌, ◌||◌, cond, List, [], ◌∷◌, map, refl, ap, sym, ◌∙◌}
use Rattle.upd_row_store.proofs.Common.{subst, arith, Decides-eqb, nat_tests, count_by, dedup, filter, flat_map, list_any, AllByRecursion, IsSorted, nat_cmp}
use Rattle.upd_row_store.proofs.Common.{CardRef, Ident, is_among, CardView, DeckView, LibraryView, all_decks, ref_of, AreRising, IsSound, count_cons}
use Rattle.upd_row_store.proofs.Common.{any_append, CardRow, IsSame, Rows, Shows, card_rows, is_asked}
use Rattle.std.proofs.Common.{nat_lt, slice_index, IsPermutation}
use Rattle.std.proofs.lemmas.Map.Keys.{IsStrictlyIncreasing-dedup}
use Rattle.std.specs.List.{dedup_from}
use Rattle.std.specs.List.Sorted.{IsStrictlyIncreasing}
use Rattle.upd_row_store.specs.Asked.{AreDecksOf, are_in_yanks, decks_with, holds_one}
use Rattle.upd_row_store.proofs.SortLemmas.{same_permuted, weaker}

-- ---- rising numbers

other_number : (n d : ℕ) → d < n → (n == d) ≡ false
other_number n d less = grind (arith, nat_tests)

none_below : (n : ℕ) (xs : List ℕ) → AllByRecursion (λ m. n < m) xs → (d : ℕ) → d ≤ n → is_among xs d ≡ false
none_below n [] all d order = refl
none_below n (x ∷ xs) all d order = rw (other_number x d (omega (arith, all.0)), none_below n xs all.1 d order) refl

first_is_least : (y : ℕ) (ys : List ℕ) (d : ℕ) → AreRising (y ∷ ys) → is_among (y ∷ ys) d ≡ true → y ≤ d
first_is_least y ys d up among = go (nat_lt d y) refl
  where
    go : (b : Bool) → nat_lt d y ≡ b → y ≤ d
    go false at_least = grind (arith, nat_tests)
    go true under =
        let less : d < y = grind (arith, nat_tests) in
        let none : is_among (y ∷ ys) d ≡ false = rw (other_number y d less, none_below y ys up.0 d (omega (arith, less))) refl in
        absurd (cc)

-- rising numbers are told by what is among them
pub rising_same : (xs ys : List ℕ) → AreRising xs → AreRising ys → ((d : ℕ) → is_among xs d ≡ is_among ys d) → xs ≡ ys
rising_same [] [] up rising same = refl
rising_same [] (y ∷ ys) up rising same = let none = same y in let own = (Decides-eqb y y).1 refl in absurd (cc)
rising_same (x ∷ xs) [] up rising same = let none = same x in let own = (Decides-eqb x x).1 refl in absurd (cc)
rising_same (x ∷ xs) (y ∷ ys) up rising same =
    let x_there : is_among (y ∷ ys) x ≡ true = sym (same x) ∙ rw ((Decides-eqb x x).1 refl) refl in
    let y_there : is_among (x ∷ xs) y ≡ true = same y ∙ rw ((Decides-eqb y y).1 refl) refl in
    let head : x ≡ y = omega (arith, first_is_least y ys x rising x_there, first_is_least x xs y up y_there) in
    let tail = rising_same xs ys up.1 rising.1 (λ d. behind d (x == d) refl head) in
    λ i. head i ∷ tail i
  where
    behind : (d : ℕ) (b : Bool) → (x == d) ≡ b → x ≡ y → is_among xs d ≡ is_among ys d
    behind d true e head =
        let is : x ≡ d = (Decides-eqb x d).0 e in
        none_below x xs up.0 d (omega (arith, is)) ∙ sym (none_below y ys rising.0 d (omega (arith, is, head)))
    behind d false e head =
        let other : (y == d) ≡ false = rw (← head) e in
        let whole = same d in
        rw (e, other) at whole

rising_of : (xs : List ℕ) → IsStrictlyIncreasing xs → AreRising xs
rising_of [] up = tt
rising_of (x ∷ []) up = (tt, tt)
rising_of (x ∷ y ∷ ys) up =
    let next : (k : ℕ) → suc k + 1 ≡ suc (k + 1) = λ k. omega arith in
    let later = rising_of (y ∷ ys) (λ k within. subst (λ n. slice_index (y ∷ ys) k < slice_index (x ∷ y ∷ ys) n) (next k)
    (up (suc k) (omega (arith, within)))) in
    let less : x < y = up 0 (omega arith) in
    ((less, weaker ys (λ m more. omega (arith, less, more)) later.0), later)

-- ---- numbers sorted, each once, but for 0

any_counted : {A : Type 0} (test : A → Bool) (xs : List A) → list_any test xs ≡ not (count_by test xs == 0)
any_counted test [] = refl
any_counted test (x ∷ xs) = rw (count_cons test x xs) (go (test x) (any_counted test xs))
  where
    go : (b : Bool) → list_any test xs ≡ not (count_by test xs == 0) → (b || list_any test xs) ≡ not (cond b 1 0 + count_by test xs == 0)
    go true later = grind (arith, nat_tests)
    go false later = let same : 0 + count_by test xs ≡ count_by test xs = omega arith in later ∙ ap (λ n. not (n == 0)) (sym same)

pub any_same : {A : Type 0} (test : A → Bool) {xs ys : List A} → IsSame xs ys → list_any test xs ≡ list_any test ys
any_same test {xs = xs} {ys = ys} same = any_counted test xs ∙ ap (λ n. not (n == 0)) (same.passes test) ∙ sym (any_counted test ys)

pub and_false : (b : Bool) → false ≡ (b && false)
and_false true = refl
and_false false = refl

among_but_none : (xs : List ℕ) (d : ℕ) → is_among (filter (λ x. not (x == 0)) xs) d ≡ (not (d == 0) && is_among xs d)
among_but_none [] d = and_false (not (d == 0))
among_but_none (x ∷ xs) d = go (x == 0) (d == 0) (x == d) refl refl refl (among_but_none xs d)
  where
    go : (a b c : Bool) → (x == 0) ≡ a → (d == 0) ≡ b → (x == d) ≡ c → is_among (filter (λ y. not (y == 0)) xs) d ≡ (not b && is_among xs d)
        → is_among (cond (not a) (x ∷ filter (λ y. not (y == 0)) xs) (filter (λ y. not (y == 0)) xs)) d ≡ (not b && (c || is_among xs d))
    go true true c none none_d same later = later
    go true false true none some same later = absurd (grind (arith, nat_tests))
    go true false false none some other later = later
    go false true true some none same later = absurd (grind (arith, nat_tests))
    go false true false some none other later = rw other later
    go false false c some some_d same later = rw (same, later) refl

-- what some of a list pass some of it pass where each stands once
module _ {A : Type 0} (eq : A → A → Bool) (exact : (x y : A) → eq x y ≡ true → x ≡ y) (p : A → Bool) where
  any_from : (k : A) (xs : List A) → list_any p (dedup_from eq k xs) ≡ (p k || list_any p xs)
  any_from k [] = refl
  any_from k (x ∷ xs) = go (eq x k) refl (any_from k xs) (any_from x xs)
    where
      twice : (a b : Bool) → (a || b) ≡ (a || (a || b))
      twice true b = refl
      twice false b = refl

      go : (b : Bool) → eq x k ≡ b → list_any p (dedup_from eq k xs) ≡ (p k || list_any p xs)
          → list_any p (dedup_from eq x xs) ≡ (p x || list_any p xs)
          → list_any p (cond b (dedup_from eq k xs) (k ∷ dedup_from eq x xs)) ≡ (p k || (p x || list_any p xs))
      go true e of_k of_x = of_k ∙ twice (p k) (list_any p xs) ∙ ap (λ y. p k || (p y || list_any p xs)) (sym (exact x k e))
      go false e of_k of_x = ap (λ b. p k || b) of_x

  pub any_once : (xs : List A) → list_any p (dedup eq xs) ≡ list_any p xs
  any_once [] = refl
  any_once (x ∷ xs) = any_from x xs

among_once : (xs : List ℕ) (d : ℕ) → is_among (dedup (λ a b. a == b) xs) d ≡ is_among xs d
among_once xs d = any_once (λ a b. a == b) (λ a b. (Decides-eqb a b).0) (λ a. a == d) xs

-- ages without 0, sorted, and then each once
pub once_by_age : (ages sorted once : List ℕ) → IsPermutation (filter (λ x. not (x == 0)) ages) sorted → IsSorted nat_cmp sorted
    → once ≡ dedup (λ a b. a == b) sorted
    → AreRising once × ((d : ℕ) → is_among once d ≡ (not (d == 0) && is_among ages d))
once_by_age ages sorted once moved up is = (
  rw is (rising_of (dedup (λ a b. a == b) sorted) (IsStrictlyIncreasing-dedup sorted up)),
  λ d. ap (λ xs. is_among xs d) is ∙ among_once sorted d ∙ any_same (λ a. a == d) (same_permuted moved) ∙ among_but_none ages d,
)

-- ---- the decks of rows

module _ (cards : List CardRef) (idents : List Ident) (d : ℕ) where
  -- whether a row is of deck d and of a card that is asked for
  abbrev pub is_found : CardRow → Bool
  is_found r = (r.deck == d) && is_asked cards r.card

  found_in_deck : (e p : ℕ) (cs : List CardView)
      → list_any is_found (card_rows idents e p cs) ≡ ((e == d) && list_any (λ c. is_asked cards (ref_of idents c)) cs)
  found_in_deck e p [] = go (e == d)
    where
      go : (b : Bool) → false ≡ (b && false)
      go true = refl
      go false = refl
  found_in_deck e p (c ∷ cs) =
      ap (λ b. ((e == d) && is_asked cards (ref_of idents c)) || b) (found_in_deck e (p + 1) cs)
      ∙ go (e == d) (is_asked cards (ref_of idents c)) (list_any (λ x. is_asked cards (ref_of idents x)) cs)
    where
      go : (a b rest : Bool) → ((a && b) || (a && rest)) ≡ (a && (b || rest))
      go true b rest = refl
      go false b rest = refl

  pub found_in_decks : (ds : List DeckView) → list_any is_found (flat_map (λ e. card_rows idents e.ident 0 e.cards) ds)
      ≡ is_among (map (λ e. e.ident) (filter (holds_one cards idents) ds)) d
  found_in_decks [] = refl
  found_in_decks (e ∷ ds) =
      any_append is_found (card_rows idents e.ident 0 e.cards) (flat_map (λ x. card_rows idents x.ident 0 x.cards) ds)
      ∙ ap (λ b. b || list_any is_found (flat_map (λ x. card_rows idents x.ident 0 x.cards) ds)) (found_in_deck e.ident 0 e.cards)
      ∙ ap (λ b. ((e.ident == d) && holds_one cards idents e) || b) (found_in_decks ds)
      ∙ go (e.ident == d) (holds_one cards idents e) refl
    where
      go : (a b : Bool) → (e.ident == d) ≡ a → ((a && b) || is_among (map (λ x. x.ident) (filter (holds_one cards idents) ds)) d)
          ≡ is_among (map (λ x. x.ident) (cond b (e ∷ filter (holds_one cards idents) ds) (filter (holds_one cards idents) ds))) d
      go true true is = rw is refl
      go true false is = refl
      go false true is = rw is refl
      go false false is = refl

-- ---- the decks of a library

pub ages_above : (n : ℕ) (keep : DeckView → Bool) (ds : List DeckView) → AllByRecursion (λ m. n < m) (map (λ d. d.ident) ds)
    → AllByRecursion (λ m. n < m) (map (λ d. d.ident) (filter keep ds))
ages_above n keep [] all = tt
ages_above n keep (d ∷ ds) all = go (keep d) (ages_above n keep ds all.1)
  where
    go : (b : Bool) → AllByRecursion (λ m. n < m) (map (λ x. x.ident) (filter keep ds))
        → AllByRecursion (λ m. n < m) (map (λ x. x.ident) (cond b (d ∷ filter keep ds) (filter keep ds)))
    go true later = (all.0, later)
    go false later = later

pub ages_rising : (keep : DeckView → Bool) (ds : List DeckView) → AreRising (map (λ d. d.ident) ds) → AreRising (map (λ d. d.ident) (filter keep ds))
ages_rising keep [] up = tt
ages_rising keep (d ∷ ds) up = go (keep d) (ages_rising keep ds up.1)
  where
    go : (b : Bool) → AreRising (map (λ x. x.ident) (filter keep ds))
        → AreRising (map (λ x. x.ident) (cond b (d ∷ filter keep ds) (filter keep ds)))
    go true later = (ages_above d.ident keep ds up.0, later)
    go false later = later

-- the first deck is `YANK$$$`, of age 0
but_yanks : (cards : List CardRef) (l : LibraryView) → IsSound l → (d : ℕ)
    → (not (d == 0) && is_among (map (λ e. e.ident) (filter (holds_one cards l.idents) (all_decks l))) d) ≡ is_among (decks_with cards l) d
but_yanks cards l sound d = go (d == 0) refl (holds_one cards l.idents (record { ident = 0; cards = l.yanks }))
  where
    rest : List DeckView
    rest = filter (holds_one cards l.idents) l.decks

    go : (a : Bool) → (d == 0) ≡ a → (b : Bool)
        → (not a && is_among (map (λ e. e.ident) (cond b (record { ident = 0; cards = l.yanks } ∷ rest) rest)) d) ≡ is_among (decks_with cards l) d
    go true e b =
        let is : d ≡ 0 = (Decides-eqb d 0).0 e in
        sym (none_below 0 (decks_with cards l) (ages_above 0 (holds_one cards l.idents) l.decks sound.deck_ages.0) d (omega (arith, is)))
    go false e true = let other : (0 == d) ≡ false = grind (arith, nat_tests) in rw other refl
    go false e false = refl

-- ages that are those of rows that show a library, each once and without 0, are those of the decks that hold the cards
pub decks_found : (cards : List CardRef) (rows : Rows) (l : LibraryView) (ages once : List ℕ) → IsSound l → Shows rows l → AreDecksOf cards rows.cards ages
    → AreRising once × ((d : ℕ) → is_among once d ≡ (not (d == 0) && is_among ages d)) → once ≡ decks_with cards l
decks_found cards rows l ages once sound shown of are =
    rising_same once (decks_with cards l) are.0 (ages_rising (holds_one cards l.idents) l.decks sound.deck_ages.1)
    (λ d. are.1 d ∙ ap (λ b. not (d == 0) && b) (of d ∙ any_same (is_found cards l.idents d) shown.cards ∙ found_in_decks cards l.idents d (all_decks l))
    ∙ but_yanks cards l sound d)

-- `YANK$$$` holds none of them where 0 is none of these ages
pub none_in_yanks : (cards : List CardRef) (rows : Rows) (l : LibraryView) (ages : List ℕ) → Shows rows l → AreDecksOf cards rows.cards ages
    → is_among ages 0 ≡ false → are_in_yanks cards l ≡ false
none_in_yanks cards rows l ages shown of none =
    go (are_in_yanks cards l) (sym (of 0 ∙ any_same (is_found cards l.idents 0) shown.cards ∙ found_in_decks cards l.idents 0 (all_decks l)) ∙ none)
  where
    rest : List DeckView
    rest = filter (holds_one cards l.idents) l.decks

    go : (b : Bool) → is_among (map (λ e. e.ident) (cond b (record { ident = 0; cards = l.yanks } ∷ rest) rest)) 0 ≡ false → b ≡ false
    go true some = absurd (cc)
    go false some = refl

-- the decks of all rows of these cards
ages_are : (cards : List CardRef) (rows : List CardRow) → AreDecksOf cards rows (map (λ r. r.deck) (filter (λ r. is_asked cards r.card) rows))
ages_are cards [] d = refl
ages_are cards (r ∷ rows) d = go (is_asked cards r.card) (r.deck == d) refl (ages_are cards rows d)
  where
    Rest : Type 0
    Rest = is_among (map (λ x. x.deck) (filter (λ x. is_asked cards x.card) rows)) d ≡ list_any (λ x. (x.deck == d) && is_asked cards x.card) rows

    go : (a b : Bool) → (r.deck == d) ≡ b → Rest
        → is_among (map (λ x. x.deck) (cond a (r ∷ filter (λ x. is_asked cards x.card) rows) (filter (λ x. is_asked cards x.card) rows))) d
        ≡ ((b && a) || list_any (λ x. (x.deck == d) && is_asked cards x.card) rows)
    go true true is later = rw is refl
    go true false is later = rw is later
    go false true is later = later
    go false false is later = later

pub ages_of_rows : (cards : List CardRef) (rows all : List CardRow) (ages : List ℕ) → ages ≡ map (λ r. r.deck) (filter (λ r. is_asked cards r.card) rows)
    → rows ≡ all → AreDecksOf cards all ages
ages_of_rows cards rows all ages is same = subst (λ rs. AreDecksOf cards rs ages) same (rw is (ages_are cards rows))
