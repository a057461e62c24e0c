-- Of the rows of a library those of a part are kept.
use Rattle.upd_row_store.proofs.Common.{◌≡◌, ℕ, ◌+◌, ◌<◌, ◌==◌, Bool, true, false, ◌&&◌, ◌||◌, cond, List, [], ◌∷◌, zero, suc, length, get_or, take, refl, ap}
use Rattle.upd_row_store.proofs.Common.{sym}
use Rattle.upd_row_store.proofs.Common.{◌∙◌, subst, arith, nat_tests, filter, list_any, is_among, is_eq, nat_cmp, slice_cmp, bytes_eq, by_name, is_same-is_eq}
use Rattle.upd_row_store.proofs.Common.{same_filter}
use Rattle.upd_row_store.proofs.Common.{CardRef, CardRow, EntryRow, IsSame, same_ref}
use Rattle.std.specs.BTreeSet as sorted
use Rattle.std.specs.BTreeSet.{BTreeSet}
use Rattle.upd_text.specs.Units.{Bytes}
use Rattle.upd_row_store.specs.PartRows.{is_loaded, is_of}
use Rattle.upd_row_store.proofs.AskedLemmas.{filter_each, known_next}
use Rattle.upd_row_store.proofs.HolderLemmas.{any_same}
use Rattle.upd_row_store.proofs.NamedLemmas.{AreNamesOf}

-- ages, as a set in order
abbrev pub AreAges : List ℕ → BTreeSet ℕ → Type 0
AreAges ages set = (age : ℕ) → sorted.contains nat_cmp set age ≡ is_among ages age

equal_is : (a k : ℕ) → is_eq (nat_cmp a k) ≡ (a == k)
equal_is a k = grind (arith, nat_tests)

same_age : (ages : List ℕ) (i : ℕ) → i < length ages → get_or ages i 0 ≡ get_or ages i (get_or ages i 0)
same_age [] i inside = absurd (omega arith)
same_age (a ∷ ages) zero inside = refl
same_age (a ∷ ages) (suc i) inside = same_age ages i (omega (arith, inside))

-- the set of one age more
pub ages_next : (ages : List ℕ) (i : ℕ) → i < length ages → (had has : BTreeSet ℕ) → AreAges (take i ages) had
    → ((k : ℕ) → sorted.contains nat_cmp has k ≡ cond (is_eq (nat_cmp (get_or ages i 0) k)) true (sorted.contains nat_cmp had k))
    → AreAges (take (i + 1) ages) has
ages_next ages i inside had has before put =
    known_next ages i (get_or ages i 0) inside (same_age ages i inside) (λ (x k : ℕ). x == k) (sorted.contains nat_cmp had) (sorted.contains nat_cmp has) before
    (λ k. put k ∙ ap (λ b. cond b true (sorted.contains nat_cmp had k)) (equal_is (get_or ages i 0) k))

-- cards, as a set in order
abbrev pub AreCardsOf : List CardRow → BTreeSet CardRef → Type 0
AreCardsOf cards set = (card : CardRef) → sorted.contains by_name set card ≡ list_any (λ r. same_ref r.card card) cards

-- the set of one card more
pub cards_next : (cards : List CardRow) (i : ℕ) (c : CardRow) → i < length cards → c ≡ get_or cards i c → (had has : BTreeSet CardRef)
    → AreCardsOf (take i cards) had
    → ((k : CardRef) → sorted.contains by_name has k ≡ cond (is_eq (by_name c.card k)) true (sorted.contains by_name had k))
    → AreCardsOf (take (i + 1) cards) has
cards_next cards i c inside is had has before put =
    known_next cards i c inside is (λ (r : CardRow) (k : CardRef). same_ref r.card k) (sorted.contains by_name had) (sorted.contains by_name has) before
    (λ k. put k ∙ ap (λ b. cond b true (sorted.contains by_name had k)) (sym (is_same-is_eq c.card k)))

-- some element passes two tests only where one passes the first
any_both : {A : Type 0} (p q : A → Bool) (xs : List A) → (list_any p xs && list_any (λ x. p x && q x) xs) ≡ list_any (λ x. p x && q x) xs
any_both p q [] = refl
any_both p q (x ∷ xs) = go (p x) (any_both p q xs)
  where
    go : (b : Bool) → (list_any p xs && list_any (λ y. p y && q y) xs) ≡ list_any (λ y. p y && q y) xs
        → ((b || list_any p xs) && ((b && q x) || list_any (λ y. p y && q y) xs)) ≡ ((b && q x) || list_any (λ y. p y && q y) xs)
    go true later = refl
    go false later = later

-- the cards of a part are the rows of loaded decks
pub cards_kept : (ages : List ℕ) (set : BTreeSet ℕ) (rows kept all : List CardRow) → AreAges ages set
    → kept ≡ filter (λ r. (r.deck == 0) || sorted.contains nat_cmp set r.deck) rows → IsSame rows all
    → IsSame kept (filter (λ r. is_loaded ages r.deck) all)
cards_kept ages set rows kept all of is same =
    subst (λ xs. IsSame xs (filter (λ r. is_loaded ages r.deck) all))
    (sym (is ∙ filter_each (λ (r : CardRow). (r.deck == 0) || sorted.contains nat_cmp set r.deck) (λ r. is_loaded ages r.deck)
    (λ r. ap (λ b. (r.deck == 0) || b) (of r.deck)) rows))
    (same_filter (λ (r : CardRow). is_loaded ages r.deck) same)

-- and its entries are those of these cards
pub entries_kept : (names : BTreeSet Bytes) (set : BTreeSet CardRef) (cards loaded : List CardRow) (rows kept all : List EntryRow)
    → AreNamesOf cards names → AreCardsOf cards set → IsSame cards loaded
    → kept ≡ filter (λ e. sorted.contains (slice_cmp nat_cmp) names e.card.name && sorted.contains by_name set e.card) rows → IsSame rows all
    → IsSame kept (filter (is_of loaded) all)
entries_kept names set cards loaded rows kept all named of same_cards is same =
    subst (λ xs. IsSame xs (filter (is_of loaded) all))
    (sym (is ∙ filter_each (λ (e : EntryRow). sorted.contains (slice_cmp nat_cmp) names e.card.name && sorted.contains by_name set e.card) (is_of loaded)
    each rows))
    (same_filter (is_of loaded) same)
  where
    each : (e : EntryRow) → (sorted.contains (slice_cmp nat_cmp) names e.card.name && sorted.contains by_name set e.card) ≡ is_of loaded e
    each e =
        (λ i. named e.card.name i && of e.card i)
        ∙ any_both (λ (r : CardRow). bytes_eq r.card.name e.card.name) (λ r. r.card.number == e.card.number) cards
        ∙ any_same (λ (r : CardRow). same_ref r.card e.card) same_cards
