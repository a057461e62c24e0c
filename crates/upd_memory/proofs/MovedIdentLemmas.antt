-- The cards that changes move are listed, by the places from which on decks move.
use Rattle.upd_memory.proofs.Common.{◌≡◌, ℕ, ◌<◌, ◌==◌, nat_le, Bool, true, false, cond, List, [], ◌∷◌, Option, None, Some, refl, ap, sym, ◌∙◌, arith, ◌&&◌}
use Rattle.upd_memory.proofs.Common.{◌||◌, BTreeMap, get, is_at, tied_itself, AllByRecursion, filter, list_any, lookup, option_map_or, is_eq, nat_cmp}
use Rattle.upd_memory.proofs.Common.{Ordering, Less, Equal, Greater, Vec, nat_tests, nat_list_cmp_total, CmpEqualImpliesEq, exact_unsigned, CardRef, CardNew}
use Rattle.upd_memory.proofs.Common.{ChangeView, CardRow, Rows, is_listed, moves_at, any_same, adds_from, is_from, is_reached, AreCards, cards_at}
use Rattle.std.proofs.Common.{ap₂}
use Rattle.std.specs.Cmp.Lexicographic.{slice_cmp}
use Rattle.std.proofs.lemmas.Map.Lookups.{exact_bytes}
use Rattle.std.proofs.lemmas.Map.Text.{is_eq-slice_cmp}
use Rattle.upd_row_store.specs.Movable.{AllMoveListed}
use Rattle.upd_row_store.proofs.MovableLemmas.{AddsListed, IsKnown, all_listed}

-- ---- tests

or_false : (b : Bool) → b ≡ (b || false)
or_false true = refl
or_false false = refl

sooner : {a : Bool} (b : Bool) → a ≡ true → (a || b) ≡ true
sooner b is = ap (λ c. c || b) is

later : {b : Bool} (a : Bool) → b ≡ true → (a || b) ≡ true
later true is = refl
later false is = is

both : {a b : Bool} → a ≡ true → b ≡ true → (a && b) ≡ true
both {b = b} is and = ap (λ c. c && b) is ∙ and

-- ---- the least number under each key

module _ {K : Type 0} (cmp : K → K → Ordering) (exact : CmpEqualImpliesEq cmp) where
  abbrev pub at_most : BTreeMap K ℕ → K → ℕ → Bool
  at_most least k n = option_map_or (λ m. nat_le m n) (get cmp least k) false

  is_equal : (o : Ordering) → is_eq o ≡ true → o ≡ Equal
  is_equal Less e = absurd (cc)
  is_equal Equal e = refl
  is_equal Greater e = absurd (cc)

  one_key : (k q : K) → is_eq (cmp k q) ≡ true → k ≡ q
  one_key k q e = exact k q (is_equal (cmp k q) e)

  -- a number that is not below the one that is there adds nothing
  -- a number that is below the one that is there, if there is one, takes its place
  pub least_put : (old new : BTreeMap K ℕ) (k : K) (n : ℕ) → ((m : ℕ) → get cmp old k ≡ Some m → n < m)
      → ((q : K) → get cmp new q ≡ cond (is_eq (cmp k q)) (Some n) (get cmp old q)) → (q : K) (p : ℕ)
      → at_most new q p ≡ (at_most old q p || (is_eq (cmp k q) && nat_le n p))
  least_put old new k n below put q p = ap (λ o. option_map_or (λ m. nat_le m p) o false) (put q) ∙ go (is_eq (cmp k q)) refl (get cmp old q) refl
    where
      within : (m : ℕ) → n < m → nat_le n p ≡ (nat_le m p || nat_le n p)
      within m less = grind (arith, nat_tests)

      go : (b : Bool) → is_eq (cmp k q) ≡ b → (o : Option ℕ) → get cmp old q ≡ o
          → option_map_or (λ m. nat_le m p) (cond b (Some n) o) false ≡ (option_map_or (λ m. nat_le m p) o false || (b && nat_le n p))
      go false e o there = or_false _
      go true e None there = refl
      go true e (Some m) there = within m (below m (ap (get cmp old) (one_key k q e) ∙ there))

pub card_put : (old new : BTreeMap (List ℕ) ℕ) (card : CardRef) → ((m : ℕ) → get (slice_cmp nat_cmp) old card.name ≡ Some m → card.number < m)
    → ((q : List ℕ) → get (slice_cmp nat_cmp) new q ≡ cond (is_eq (slice_cmp nat_cmp card.name q)) (Some card.number) (get (slice_cmp nat_cmp) old q))
    → (c : CardRef) → is_listed new c ≡ (is_listed old c || is_from card c)
card_put old new card below put c =
    least_put (slice_cmp nat_cmp) exact_bytes old new card.name card.number below put c.name c.number
    ∙ ap (λ b. is_listed old c || (b && nat_le card.number c.number)) (is_eq-slice_cmp card.name c.name)

-- ---- the list as a whole

-- each element of a list passes no test that no element passes
any_own : {A : Type 0} (xs : List A) → AllByRecursion (λ x. (test : A → Bool) → test x ≡ true → list_any test xs ≡ true) xs
any_own [] = tt
any_own {A} (x ∷ xs) = (λ test is. sooner (list_any test xs) is, more xs (any_own xs))
  where
    more : (ys : List A) → AllByRecursion (λ y. (test : A → Bool) → test y ≡ true → list_any test xs ≡ true) ys
        → AllByRecursion (λ y. (test : A → Bool) → test y ≡ true → list_any test (x ∷ xs) ≡ true) ys
    more [] own = tt
    more (y ∷ ys) own = (λ test is. later (test x) (own.0 test is), more ys own.1)

-- what is so of the value under a key is so of an entry
entry_found : (es : List (ℕ × ℕ)) (d m : ℕ) (g : ℕ → ℕ → Bool) → lookup (is_at (nat_cmp d)) es ≡ Some m → g d m ≡ true
    → list_any (λ e. g e.0 e.1) es ≡ true
entry_found [] d m g there is = absurd (cc)
entry_found (e ∷ es) d m g there is = go (is_eq (nat_cmp d e.0)) refl there (λ at. entry_found es d m g at is)
  where
    value : {a b : ℕ} → Some a ≡ Some b → a ≡ b
    value p = cc

    go : (b : Bool) → is_eq (nat_cmp d e.0) ≡ b → cond b (Some e.1) (lookup (is_at (nat_cmp d)) es) ≡ Some m
        → (lookup (is_at (nat_cmp d)) es ≡ Some m → list_any (λ e. g e.0 e.1) es ≡ true) → list_any (λ e. g e.0 e.1) (e ∷ es) ≡ true
    go true here at rest = sooner (list_any (λ e. g e.0 e.1) es) (ap₂ g (sym (one_key nat_cmp exact_unsigned d e.0 here)) (value at) ∙ is)
    go false other at rest = later (g e.0 e.1) (rest at)

module _ {Z : Type 0} (decks : BTreeMap ℕ (Vec CardRow Z)) (rows : Rows) (are : AreCards decks rows.cards) (places : BTreeMap ℕ ℕ)
    (start first movable : BTreeMap (List ℕ) ℕ) (cs : List ChangeView)
    (reached : (d p : ℕ) → is_reached places d p ≡ list_any (λ c. moves_at c d p) cs)
    (moved : (c : CardRef) → is_listed first c
    ≡ (is_listed start c || list_any (λ e. list_any (λ r. nat_le e.1 r.pos && is_from r.card c) (cards_at decks e.0)) places.entries))
    (added : (c : CardRef) → is_listed movable c ≡ (is_listed first c || list_any (λ ch. adds_from ch c) cs)) where
  itself : (c : CardRef) → is_from c c ≡ true
  itself c = both (sym (is_eq-slice_cmp c.name c.name) ∙ ap is_eq (tied_itself nat_list_cmp_total c.name)) (at_most_itself c.number)
    where
      at_most_itself : (n : ℕ) → nat_le n n ≡ true
      at_most_itself n = grind (arith, nat_tests)

  new_listed : (news : List ChangeView) → ((c : CardRef) → list_any (λ ch. adds_from ch c) news ≡ true → list_any (λ ch. adds_from ch c) cs ≡ true)
      → AllByRecursion (AddsListed movable) news
  new_listed [] among = tt
  new_listed (c ∷ news) among = (
    one c (λ card is. among card (sooner (list_any (λ ch. adds_from ch card) news) is)),
    new_listed news (λ card is. among card (later (adds_from c card) is)),
  )
    where
      one : (ch : ChangeView) → ((card : CardRef) → adds_from ch card ≡ true → list_any (λ ch. adds_from ch card) cs ≡ true) → AddsListed movable ch
      one (CardNew card deck p body) is = added card ∙ later (is_listed first card) (is card (itself card))
      one _ is = tt

  -- a row at a place that is reached
  row_listed : (r : CardRow) → ((test : CardRow → Bool) → test r ≡ true → list_any test rows.cards ≡ true) → IsKnown movable cs r
  row_listed r own there = added r.card ∙ sooner (list_any (λ ch. adds_from ch r.card) cs)
      (moved r.card ∙ later (is_listed start r.card) (go (get nat_cmp places r.deck) refl (reached r.deck r.pos ∙ there)))
    where
      under : (m : ℕ) → nat_le m r.pos ≡ true → list_any (λ s. nat_le m s.pos && is_from s.card r.card) (cards_at decks r.deck) ≡ true
      under m few = any_same (λ s. nat_le m s.pos && is_from s.card r.card) (are r.deck) ∙ within rows.cards
          (own (λ s. (s.deck == r.deck) && (nat_le m s.pos && is_from s.card r.card)) (both (same r.deck) (both few (itself r.card))))
        where
          same : (d : ℕ) → (d == d) ≡ true
          same d = grind (arith, nat_tests)

          within : (xs : List CardRow) → list_any (λ s. (s.deck == r.deck) && (nat_le m s.pos && is_from s.card r.card)) xs ≡ true
              → list_any (λ s. nat_le m s.pos && is_from s.card r.card) (filter (λ s. s.deck == r.deck) xs) ≡ true
          within [] is = is
          within (x ∷ xs) is = step (x.deck == r.deck) is (within xs)
            where
              step : (b : Bool) → ((b && (nat_le m x.pos && is_from x.card r.card))
                  || list_any (λ s. (s.deck == r.deck) && (nat_le m s.pos && is_from s.card r.card)) xs) ≡ true
                  → (list_any (λ s. (s.deck == r.deck) && (nat_le m s.pos && is_from s.card r.card)) xs ≡ true
                  → list_any (λ s. nat_le m s.pos && is_from s.card r.card) (filter (λ s. s.deck == r.deck) xs) ≡ true)
                  → list_any (λ s. nat_le m s.pos && is_from s.card r.card)
                  (cond b (x ∷ filter (λ s. s.deck == r.deck) xs) (filter (λ s. s.deck == r.deck) xs)) ≡ true
              step false is rest = rest is
              step true is rest = either (nat_le m x.pos && is_from x.card r.card) is
                where
                  either : (c : Bool) → (c || list_any (λ s. (s.deck == r.deck) && (nat_le m s.pos && is_from s.card r.card)) xs) ≡ true
                      → (c || list_any (λ s. nat_le m s.pos && is_from s.card r.card) (filter (λ s. s.deck == r.deck) xs)) ≡ true
                  either true is = refl
                  either false is = rest is

      go : (o : Option ℕ) → get nat_cmp places r.deck ≡ o → option_map_or (λ from. nat_le from r.pos) (get nat_cmp places r.deck) false ≡ true
          → list_any (λ e. list_any (λ s. nat_le e.1 s.pos && is_from s.card r.card) (cards_at decks e.0)) places.entries ≡ true
      go None at is = absurd (let clash : false ≡ true = sym (ap (λ o. option_map_or (λ from. nat_le from r.pos) o false) at) ∙ is in cc)
      go (Some m) at is =
          entry_found places.entries r.deck m (λ d m. list_any (λ s. nat_le m s.pos && is_from s.card r.card) (cards_at decks d)) at
          (under m (sym (ap (λ o. option_map_or (λ from. nat_le from r.pos) o false) at) ∙ is))

  pub all_moved_listed : AllMoveListed movable cs rows
  all_moved_listed = all_listed movable cs rows (new_listed cs (λ c is. is)) (each rows.cards (any_own rows.cards))
    where
      each : (rs : List CardRow) → AllByRecursion (λ r. (test : CardRow → Bool) → test r ≡ true → list_any test rows.cards ≡ true) rs
          → AllByRecursion (IsKnown movable cs) rs
      each [] own = tt
      each (r ∷ rs) own = (row_listed r own.0, each rs own.1)
