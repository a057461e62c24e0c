-- A sound library is older than its next ident.
use Rattle.upd_laws.proofs.Common.{◌≡◌, ℕ, ◌+◌, ◌<◌, ◌≤◌, Bool, true, ◌&&◌, List, [], ◌∷◌, ◌++◌, length, arith, IsTrue, AllByRecursion, flat_map, list_any}
use Rattle.upd_laws.proofs.Common.{or_cases, and_parts, Ident, next_age, CardView, DeckView, LibraryView, is_deck_kind, AreAgedFrom, is_held, is_held_deck}
use Rattle.upd_laws.proofs.Common.{IsOfHeld, IsSound}
use Rattle.std.proofs.Common.{⊎_elim, eqb-true}
use Rattle.upd_laws.proofs.BackGrowthLemmas.{all_weaker}
use Rattle.upd_laws.proofs.BackPurgeLemmas.{IsOldCard, IsOldDeck}

all_parts : {A : Type 0} (P : A → Type 0) (xs ys : List A) → AllByRecursion P (xs ++ ys) → AllByRecursion P xs × AllByRecursion P ys
all_parts P [] ys a = (tt, a)
all_parts P (x ∷ xs) ys a = let both = all_parts P xs ys a.1 in ((a.0, both.0), both.1)

pub ages_below : (n : ℕ) (is : List Ident) → AreAgedFrom n is → AllByRecursion (λ i. (n ≤ i.age) × (i.age < n + length is)) is
ages_below n [] a = tt
ages_below n (i ∷ is) a =
    let e = a.0 in
    (omega arith, all_weaker _ _ (λ j w. omega arith) is (ages_below (n + 1) is a.1))

any_below : (test : Ident → Bool) (z n : ℕ) → ((i : Ident) → test i ≡ true → i.age ≡ z) → (is : List Ident) → AreAgedFrom n is
    → IsTrue (list_any test is) → z < n + length is
any_below test z n same [] a any = cc
any_below test z n same (i ∷ is) a any =
    ⊎_elim
    (λ (t : test i ≡ true). omega (arith, a.0, same i t))
    (λ (t : list_any test is ≡ true). omega (arith, any_below test z (n + 1) same is a.1 t))
    (or_cases (test i) (list_any test is) any)

held_below : (is : List Ident) (z : ℕ) → AreAgedFrom 1 is → IsTrue (is_held is z) → z < length is + 1
held_below is z a h = omega (arith, any_below _ z 1 (λ i t. eqb-true i.age z (and_parts i.held _ t).1) is a h)

held_deck_below : (is : List Ident) (z : ℕ) → AreAgedFrom 1 is → IsTrue (is_held_deck is z) → z < length is + 1
held_deck_below is z a h = omega (arith, any_below _ z 1 (λ i t. eqb-true i.age z (and_parts (i.held && is_deck_kind i.kind) _ t).1) is a h)

old_card : (is : List Ident) → AreAgedFrom 1 is → (c : CardView) → IsOfHeld is c → IsOldCard (length is + 1) c
old_card is a c h = (held_below is c.ident a h.0, all_weaker _ _ (λ e. held_below is e.ident a) c.history h.1)

old_decks : (is : List Ident) → AreAgedFrom 1 is → (ds : List DeckView) → AllByRecursion (λ d. IsTrue (is_held_deck is d.ident)) ds
    → AllByRecursion (IsOfHeld is) (flat_map (λ d. d.cards) ds) → AllByRecursion (IsOldDeck (length is + 1)) ds
old_decks is a [] h c = tt
old_decks is a (d ∷ ds) h c =
    let both = all_parts _ d.cards (flat_map (λ e. e.cards) ds) c in
    ((held_deck_below is d.ident a h.0, all_weaker _ _ (old_card is a) d.cards both.0), old_decks is a ds h.1 both.1)

-- all that a library has is older than x
pub record IsOld (x : ℕ) (l : LibraryView) : Type 0 where
  pub idents : AllByRecursion (λ i. i.age < x) l.idents
  pub decks : AllByRecursion (IsOldDeck x) l.decks
  pub yanks : AllByRecursion (IsOldCard x) l.yanks

pub old_library : (l : LibraryView) → IsSound l → IsOld (next_age l) l
old_library l s =
    let both = all_parts _ l.yanks (flat_map (λ d. d.cards) l.decks) s.cards in
    record {
      idents = all_weaker _ _ (λ i w. omega arith) l.idents (ages_below 1 l.idents s.ages);
      decks = old_decks l.idents s.ages l.decks s.decks both.1;
      yanks = all_weaker _ _ (old_card l.idents s.ages) l.yanks both.0;
    }
