-- Cards that are asked for, as sets and lists in order, and the statuses of these cards alone.
use Rattle.upd_row_store.proofs.Common.{◌≡◌, ℕ, ◌+◌, ◌<◌, Bool, true, false, ◌||◌, cond, List, [], ◌∷◌, ◌++◌, length, get_or, map, take, refl, ap, sym, subst}
use Rattle.upd_row_store.proofs.Common.{◌∙◌, dedup, filter, list_any, IsPermutation, IsSorted, IsTotalOrder, nat_cmp_total, nat_list_cmp_total, on_total}
use Rattle.upd_row_store.proofs.Common.{then_total, is_eq, CardRef, by_name, is_same_reference, is_same-is_eq, any_append, same_ref_is, IsSame, Rows}
use Rattle.upd_row_store.proofs.Common.{same_ref, is_asked}
use Rattle.std.proofs.lemmas.List.{take_more}
use Rattle.upd_row_store.proofs.Common.{DeckView, Ident, LibraryView, Option, library_of}
use Rattle.std.specs.BTreeSet as sorted
use Rattle.std.specs.Option.{option_to_list}
use Rattle.upd_core.specs.Library.{deck_of}
use Rattle.std.specs.BTreeSet.{BTreeSet}
use Rattle.std.specs.List.Sorted.{IsStrictlySortedBy}
use Rattle.std.proofs.lemmas.List.Kept.{IsStrictlySortedBy-dedup}
use Rattle.std.proofs.lemmas.List.Sorted.{list_any-IsPermutation}
use Rattle.upd_row_store.specs.Tables.{state_pair}
use Rattle.upd_row_store.proofs.HolderLemmas.{any_once}

-- the cards that are asked for, as a set in order
abbrev pub IsSetOf : List CardRef → BTreeSet CardRef → Type 0
IsSetOf cards set = (k : CardRef) → sorted.contains by_name set k ≡ is_asked cards k

pub or_nothing : (b : Bool) → (b || false) ≡ b
or_nothing true = refl
or_nothing false = refl

module _ {A : Type 0} (cards : List A) (i : ℕ) (c : A) (inside : i < length cards) (is : c ≡ get_or cards i c) where
  cards_next : take (i + 1) cards ≡ take i cards ++ c ∷ []
  cards_next = take_more cards i c inside ∙ ap (λ x. take i cards ++ x ∷ []) (sym is)

  -- a test of cards that passes what it passed before, and what it passes of one card more
  pub known_next : {K : Type 0} (has : A → K → Bool) (before after : K → Bool) → ((k : K) → before k ≡ list_any (λ r. has r k) (take i cards))
      → ((k : K) → after k ≡ cond (has c k) true (before k)) → (k : K) → after k ≡ list_any (λ r. has r k) (take (i + 1) cards)
  known_next has before after known put k =
      put k ∙ ap (cond (has c k) true) (known k) ∙ turn (has c k) (list_any (λ r. has r k) (take i cards))
      ∙ sym (ap (list_any (λ r. has r k)) cards_next ∙ any_append (λ r. has r k) (take i cards) (c ∷ [])
      ∙ ap (λ b. list_any (λ r. has r k) (take i cards) || b) (or_nothing (has c k)))
    where
      turn : (a b : Bool) → cond a true b ≡ (b || a)
      turn true true = refl
      turn true false = refl
      turn false true = refl
      turn false false = refl

module _ (cards : List CardRef) (i : ℕ) (c : CardRef) (inside : i < length cards) (is : c ≡ get_or cards i c) where
  -- the set of one card more
  pub set_next : (had has : BTreeSet CardRef) → IsSetOf (take i cards) had
      → ((k : CardRef) → sorted.contains by_name has k ≡ cond (is_eq (by_name c k)) true (sorted.contains by_name had k)) → IsSetOf (take (i + 1) cards) has
  set_next had has before put =
      known_next cards i c inside is (λ (r : CardRef) (k : CardRef). same_ref r k) (sorted.contains by_name had) (sorted.contains by_name has) before
      (λ k. put k ∙ ap (λ b. cond b true (sorted.contains by_name had k)) (sym (is_same-is_eq c k)))

pub filter_each : {A : Type 0} (p q : A → Bool) → ((x : A) → p x ≡ q x) → (xs : List A) → filter p xs ≡ filter q xs
filter_each p q same xs = ap (λ (f : _ → Bool). filter f xs) (λ j x. same x j)

pub filter_made : {A B : Type 0} (test : B → Bool) (f : A → B) (xs : List A) → filter test (map f xs) ≡ map f (filter (λ x. test (f x)) xs)
filter_made test f [] = refl
filter_made test f (x ∷ xs) = go (test (f x)) (filter_made test f xs)
  where
    go : (b : Bool) → filter test (map f xs) ≡ map f (filter (λ x. test (f x)) xs)
        → cond b (f x ∷ filter test (map f xs)) (filter test (map f xs)) ≡ map f (cond b (x ∷ filter (λ x. test (f x)) xs) (filter (λ x. test (f x)) xs))
    go true later = ap (λ l. f x ∷ l) later
    go false later = later

-- the statuses of some cards, kept of statuses that have all of them
pub states_kept : (cards : List CardRef) (set : BTreeSet CardRef) (rows : Rows) (all kept : List (CardRef × Bool)) → IsSetOf cards set
    → IsSame (filter (λ p. is_asked cards p.0) all) (filter (λ p. is_asked cards p.0) (map state_pair rows.states))
    → kept ≡ filter (λ p. sorted.contains by_name set p.0) all → IsSame kept (map state_pair (filter (λ r. is_asked cards r.card) rows.states))
states_kept cards set rows all kept of same is =
    subst (λ l. IsSame l (map state_pair (filter (λ r. is_asked cards r.card) rows.states)))
    (sym (is ∙ filter_each (λ (p : CardRef × Bool). sorted.contains by_name set p.0) (λ p. is_asked cards p.0) (λ p. of p.0) all))
    (subst (IsSame (filter (λ p. is_asked cards p.0) all)) (filter_made (λ p. is_asked cards p.0) state_pair rows.states) same)

-- ---- the deck of a name

-- the directory alone has it
pub named_alone : (name : List ℕ) (l found : LibraryView) (idents : List Ident) (decks : List DeckView) (o : Option ℕ) → found ≡ library_of idents decks
    → idents ≡ l.idents → decks ≡ [] → o ≡ deck_of name found → option_to_list o ≡ option_to_list (deck_of name l)
named_alone name l found idents decks o is same none at =
    ap option_to_list (at ∙ ap (deck_of name) (is ∙ λ i. library_of (same i) (none i)))

-- ---- each card once

refs_total : IsTotalOrder by_name
refs_total = then_total (on_total (λ c. c.name) nat_list_cmp_total) (on_total (λ c. c.number) nat_cmp_total)

pub once_in_order : (sorted once : List CardRef) → IsSorted by_name sorted → once ≡ dedup is_same_reference sorted
    → IsStrictlySortedBy by_name once
once_in_order sorted once up is = subst (IsStrictlySortedBy by_name) (sym is) (IsStrictlySortedBy-dedup refs_total is_same-is_eq sorted up)

pub once_same : (test : CardRef → Bool) (cards sorted once : List CardRef) → IsPermutation cards sorted → once ≡ dedup is_same_reference sorted
    → list_any test once ≡ list_any test cards
once_same test cards sorted once moved is =
    ap (list_any test) is ∙ any_once is_same_reference same_ref_is test sorted ∙ sym (list_any-IsPermutation test cards sorted moved)
