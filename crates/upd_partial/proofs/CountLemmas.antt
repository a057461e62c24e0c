-- The number of decks in a part, and the whole as a part.
use Rattle.upd_partial.proofs.Common.{◌≡◌, ℕ, ◌+◌, ◌≤◌, Bool, true, false, not, cond, ◌||◌, List, [], ◌∷◌, length, map, refl, sym, ap, subst, arith, ◌==◌}
use Rattle.upd_partial.proofs.Common.{filter, AllByRecursion, is_among, DeckView, LibraryView, cards_of_decks, entries_of_decks, part_of, IsSound}
use Rattle.upd_partial.proofs.Common.{deck_ages_apart}
use Rattle.std.proofs.lemmas.Bool.Decides.{Decides-eqb}
use Rattle.upd_core.specs.Sound.{AreApart}

twice : (b : Bool) → not (not b) ≡ b
twice true = refl
twice false = refl

-- ---- at most one deck with a serial

either : {A : Type 0} (p q : A → Bool) (xs : List A) → length (filter (λ x. p x || q x) xs) ≤ length (filter p xs) + length (filter q xs)
either p q [] = omega arith
either {A} p q (x ∷ xs) = go (p x) (q x) (either p q xs)
  where
    go : (a b : Bool) → length (filter (λ x. p x || q x) xs) ≤ length (filter p xs) + length (filter q xs)
        → length (cond (a || b) (x ∷ filter (λ x. p x || q x) xs) (filter (λ x. p x || q x) xs))
        ≤ length (cond a (x ∷ filter p xs) (filter p xs)) + length (cond b (x ∷ filter q xs) (filter q xs))
    go true true less = omega (arith, less)
    go true false less = omega (arith, less)
    go false true less = omega (arith, less)
    go false false less = less

none_of : (z : ℕ) (ds : List DeckView) → AllByRecursion (λ y. z ≡ y → ⊥) (map (λ (d : DeckView). d.ident) ds)
    → length (filter (λ (d : DeckView). z == d.ident) ds) ≡ 0
none_of z [] other = refl
none_of z (d ∷ ds) other = go (z == d.ident) refl (none_of z ds other.1)
  where
    go : (b : Bool) → (z == d.ident) ≡ b → length (filter (λ (d : DeckView). z == d.ident) ds) ≡ 0
        → length (filter (λ (d : DeckView). z == d.ident) (d ∷ ds)) ≡ 0
    go true e later = absurd (other.0 ((Decides-eqb z d.ident).0 e))
    go false e later = rw e later

one_of : (z : ℕ) (ds : List DeckView) → AreApart (map (λ (d : DeckView). d.ident) ds) → length (filter (λ (d : DeckView). z == d.ident) ds) ≤ 1
one_of z [] apart = omega arith
one_of z (d ∷ ds) apart = go (z == d.ident) refl (one_of z ds apart.1)
  where
    go : (b : Bool) → (z == d.ident) ≡ b → length (filter (λ (d : DeckView). z == d.ident) ds) ≤ 1
        → length (filter (λ (d : DeckView). z == d.ident) (d ∷ ds)) ≤ 1
    go true e later =
        let same : z ≡ d.ident = (Decides-eqb z d.ident).0 e in
        let none : length (filter (λ (d : DeckView). z == d.ident) ds) ≡ 0 =
        none_of z ds (subst (λ n. AllByRecursion (λ y. n ≡ y → ⊥) (map (λ (d : DeckView). d.ident) ds)) (sym same) apart.0) in
        rw e (omega (arith, none))
    go false e later = rw e later

few : (ages : List ℕ) (ds : List DeckView) → AreApart (map (λ (d : DeckView). d.ident) ds)
    → length (filter (λ (d : DeckView). is_among ages d.ident) ds) ≤ length ages
few [] ds apart = none ds
  where
    none : (ds : List DeckView) → length (filter (λ (d : DeckView). is_among [] d.ident) ds) ≤ 0
    none [] = omega arith
    none (d ∷ ds) = none ds
few (z ∷ ages) ds apart =
    let both = either (λ (d : DeckView). z == d.ident) (λ (d : DeckView). is_among ages d.ident) ds in
    let one = one_of z ds apart in
    let rest = few ages ds apart in
    omega (arith, both, one, rest)

-- a part has no more decks than serials were asked for
pub decks_few : (ages : List ℕ) (l : LibraryView) → IsSound l → length (part_of ages l).decks ≤ length ages
decks_few ages l sound =
    let apart = deck_ages_apart l sound in
    let same : length (part_of ages l).decks ≡ length (filter (λ (d : DeckView). is_among ages d.ident) l.decks) =
    ap (λ (p : DeckView → Bool). length (filter p l.decks)) (λ i d. twice (is_among ages d.ident) i) in
    subst (λ n. n ≤ length ages) (sym same) (few ages l.decks apart.1)

-- ---- the whole library

own_among : (ages : List ℕ) (z : ℕ) → is_among (z ∷ ages) z ≡ true
own_among ages z = let same : (z == z) ≡ true = (Decides-eqb z z).1 refl in rw same refl

later_among : (ages : List ℕ) (y z : ℕ) → is_among ages z ≡ true → is_among (y ∷ ages) z ≡ true
later_among ages y z is = go (y == z)
  where
    go : (b : Bool) → (b || is_among ages z) ≡ true
    go true = refl
    go false = is

abbrev AreAmong : List ℕ → List DeckView → Type 0
AreAmong ages ds = AllByRecursion (λ (d : DeckView). is_among ages d.ident ≡ true) ds

more_among : (ages : List ℕ) (y : ℕ) (ds : List DeckView) → AreAmong ages ds → AreAmong (y ∷ ages) ds
more_among ages y [] all = tt
more_among ages y (d ∷ ds) all = (later_among ages y d.ident all.0, more_among ages y ds all.1)

all_among : (ds : List DeckView) → AreAmong (map (λ (d : DeckView). d.ident) ds) ds
all_among [] = tt
all_among (d ∷ ds) = (own_among (map (λ (d : DeckView). d.ident) ds) d.ident, more_among (map (λ (d : DeckView). d.ident) ds) d.ident ds (all_among ds))

kept_all : (ages : List ℕ) (ds : List DeckView) → AreAmong ages ds → filter (λ (d : DeckView). not (not (is_among ages d.ident))) ds ≡ ds
kept_all ages [] all = refl
kept_all ages (d ∷ ds) all = let is = all.0 in rw is (ap (λ ds. d ∷ ds) (kept_all ages ds all.1))

none_out : (ages : List ℕ) (ds : List DeckView) → AreAmong ages ds → filter (λ (d : DeckView). not (is_among ages d.ident)) ds ≡ []
none_out ages [] all = refl
none_out ages (d ∷ ds) all = let is = all.0 in rw is (none_out ages ds all.1)

-- the part with all decks leaves none out
pub none_left_out : (l : LibraryView) → filter (λ (d : DeckView). not (is_among (map (λ (d : DeckView). d.ident) l.decks) d.ident)) l.decks ≡ []
none_left_out l = none_out (map (λ (d : DeckView). d.ident) l.decks) l.decks (all_among l.decks)

same_plus : (n m : ℕ) → m ≡ 0 → n + m ≡ n
same_plus n m none = omega (arith, none)

-- the part with all decks is the whole
pub whole_part : (l : LibraryView) → part_of (map (λ (d : DeckView). d.ident) l.decks) l ≡ l
whole_part l = λ i. record {
  idents = l.idents;
  decks = kept_all (map (λ (d : DeckView). d.ident) l.decks) l.decks (all_among l.decks) i;
  yanks = l.yanks;
  rest = record {
    cards = same_plus l.rest.cards _ (ap cards_of_decks none) i;
    entries = same_plus l.rest.entries _ (ap entries_of_decks none) i;
  };
}
  where
    none : filter (λ (d : DeckView). not (is_among (map (λ (d : DeckView). d.ident) l.decks) d.ident)) l.decks ≡ []
    none = none_left_out l
