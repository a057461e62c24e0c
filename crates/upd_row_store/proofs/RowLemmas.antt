-- Rows by card: their order, and the rows of one card among them.
use Rattle.upd_row_store.proofs.Common.{◌≡◌, ℕ, ◌+◌, ◌-◌, ◌<◌, ◌≤◌, Bool, true, false, cond, List, [], ◌∷◌, ◌++◌, length, map, take, drop, append-nil, refl}
use Rattle.upd_row_store.proofs.Common.{ap, sym, ◌∙◌, subst, arith, nat_cmp_total, nat_list_cmp_total, on_total, then_total, take_all, filter-append}
use Rattle.upd_row_store.proofs.Common.{ranks_by, IsTotalOrder, IsStrictWeakOrder, nat_cmp_is, filter, flat_map, AllByRecursion, IsSortedBy, IsPartitionPoint}
use Rattle.upd_row_store.proofs.Common.{IsPartitionedBy, is_eq, is_le, is_lt, nat_cmp, ordering_then, Ordering, Less, Equal, Greater, is_same-is_eq}
use Rattle.upd_row_store.proofs.Common.{card_order, CardRef, Entry, Target, AreApart, other_ref, same_ref_own, EntryRow, TargetRow, entry_rows, same_ref}
use Rattle.upd_row_store.proofs.Common.{target_rows}
use Rattle.std.proofs.lemmas.List.{length-drop}
use Rattle.std.proofs.lemmas.List.Sorted.{searchable_from_sorted}
use Rattle.std.specs.Cmp.{tied_itself}
use Rattle.std.specs.Ordering.{ordering_index, ordering_reverse}
use Rattle.upd_row_store.proofs.SortLemmas.{IsRising, found_between, parted_behind}

-- ---- the order of references

pub card_total : IsTotalOrder card_order
card_total = then_total (on_total (λ c. c.name) nat_list_cmp_total) (on_total (λ c. c.number) nat_cmp_total)

eq_back : (r : Ordering) → is_eq (ordering_reverse r) ≡ is_eq r
eq_back Less = refl
eq_back Equal = refl
eq_back Greater = refl

not_below : (r : Ordering) → is_lt r ≡ true → is_eq r ≡ false
not_below Less e = refl
not_below Equal e = absurd (cc)
not_below Greater e = refl

eq_most : (r : Ordering) → is_lt r ≡ false → is_eq r ≡ is_le r
eq_most Less e = absurd (cc)
eq_most Equal e = refl
eq_most Greater e = refl

-- a reference is the same where the order says so, read from the other
pub same_by_order : (c d : CardRef) → same_ref c d ≡ is_eq (card_order d c)
same_by_order c d = is_same-is_eq c d ∙ ap is_eq (card_total.antisymm c d) ∙ eq_back (card_order d c)

lower_below : (r s : Ordering) → ordering_index r ≤ ordering_index s → is_lt s ≡ true → is_lt r ≡ true
lower_below Less s order e = refl
lower_below Equal Less order e = absurd (omega arith)
lower_below Equal Equal order e = absurd (cc)
lower_below Equal Greater order e = absurd (cc)
lower_below Greater Less order e = absurd (omega arith)
lower_below Greater Equal order e = absurd (cc)
lower_below Greater Greater order e = absurd (cc)

lower_most : (r s : Ordering) → ordering_index r ≤ ordering_index s → is_le s ≡ true → is_le r ≡ true
lower_most Less s order e = refl
lower_most Equal s order e = refl
lower_most Greater Less order e = absurd (omega arith)
lower_most Greater Equal order e = absurd (omega arith)
lower_most Greater Greater order e = absurd (cc)

first_not_below : (r s : Ordering) → is_lt (ordering_then r s) ≡ false → is_lt r ≡ false
first_not_below Less s e = e
first_not_below Equal s e = refl
first_not_below Greater s e = refl

-- ---- rows in order of their cards, those of a card by number

module _ {A : Type 0} (card : A → CardRef) (ord : A → ℕ) where
  abbrev pub row_below : A → A → Bool
  row_below a b = is_lt (ordering_then (card_order (card a) (card b)) (nat_cmp (ord a) (ord b)))

  pub row_order : IsStrictWeakOrder row_below
  row_order = ranks_by (then_total (on_total card card_total) (on_total ord nat_cmp_total)) (λ a. a)

  pub by_card : (xs : List A) → IsSortedBy row_below xs → IsSortedBy (λ a b. is_lt (card_order (card a) (card b))) xs
  by_card xs up k d low high = first_not_below _ _ (up k d low high)

  pub parted_below : (c : CardRef) (xs : List A) → IsSortedBy row_below xs → IsPartitionedBy (λ a. is_lt (card_order (card a) c)) xs
  parted_below c xs up i j d order within e = lower_below _ _ (searchable_from_sorted card_total card xs c (by_card xs up) i j d order within) e

  pub parted_most : (c : CardRef) (xs : List A) → IsSortedBy row_below xs → IsPartitionedBy (λ a. is_le (card_order (card a) c)) xs
  parted_most c xs up i j d order within e = lower_most _ _ (searchable_from_sorted card_total card xs c (by_card xs up) i j d order within) e

  -- what is left of rows behind a place
  abbrev pub left_behind : List A → ℕ → List A
  left_behind xs a = take (length xs - a) (drop a xs)

  left_is : (xs : List A) (a : ℕ) → left_behind xs a ≡ drop a xs
  left_is xs a = take_all (length xs - a) (drop a xs) (omega (arith, length-drop a xs))

  pub parted_left : (c : CardRef) (xs : List A) (a : ℕ) → IsSortedBy row_below xs → IsPartitionedBy (λ x. is_le (card_order (card x) c)) (left_behind xs a)
  parted_left c xs a up =
      subst (IsPartitionedBy (λ x. is_le (card_order (card x) c))) (sym (left_is xs a))
      (parted_behind (λ x. is_le (card_order (card x) c)) xs a (parted_most c xs up))

  -- the rows of a card lie from where they are no longer below it up to where they are above it
  pub rows_between : (c : CardRef) (xs : List A) (a b : ℕ) → a ≤ length xs → b ≤ length (left_behind xs a)
      → IsPartitionPoint (λ x. is_lt (card_order (card x) c) ≡ true) (λ x. is_lt (card_order (card x) c) ≡ false) xs a
      → IsPartitionPoint (λ x. is_le (card_order (card x) c) ≡ true) (λ x. is_le (card_order (card x) c) ≡ false) (left_behind xs a) b
      → filter (λ x. same_ref c (card x)) xs ≡ take b (left_behind xs a)
  rows_between c xs a b p q from to =
      let is = left_is xs a in
      let end = subst (λ zs. IsPartitionPoint (λ x. is_le (card_order (card x) c) ≡ true) (λ x. is_le (card_order (card x) c) ≡ false) zs b) is to in
      found_between (λ x. is_lt (card_order (card x) c)) (λ x. is_le (card_order (card x) c)) (λ x. same_ref c (card x))
      (λ x e. same_by_order c (card x) ∙ not_below _ e) (λ x e. same_by_order c (card x) ∙ eq_most _ e) xs a b p (subst (λ zs. b ≤ length zs) is q) from end
      ∙ ap (take b) (sym is)

  row_later : (a b : A) → card a ≡ card b → ord a < ord b → row_below a b ≡ true
  row_later a b same less =
      let tied : card_order (card a) (card b) ≡ Equal = subst (λ c. card_order (card a) c ≡ Equal) same (tied_itself card_total (card a)) in
      ap (λ r. is_lt (ordering_then r (nat_cmp (ord a) (ord b)))) tied ∙ ap is_lt (sym (nat_cmp_is (ord a) (ord b) Less less))

-- ---- the rows of one card among those of many

module _ {A X : Type 0} (card : A → CardRef) (ref : X → CardRef) (rows : X → List A) (of : (x : X) → AllByRecursion (λ r. card r ≡ ref x) (rows x)) where
  pub own_kept : (c : CardRef) (rs : List A) → AllByRecursion (λ r. card r ≡ c) rs → filter (λ r. same_ref c (card r)) rs ≡ rs
  own_kept c [] all = refl
  own_kept c (r ∷ rs) all =
      let own : same_ref c (card r) ≡ true = subst (λ d. same_ref c d ≡ true) (sym all.0) (same_ref_own c) in
      ap (λ b. cond b (r ∷ filter (λ s. same_ref c (card s)) rs) (filter (λ s. same_ref c (card s)) rs)) own ∙ ap (λ ss. r ∷ ss) (own_kept c rs all.1)

  none_kept : (c d : CardRef) (rs : List A) → (c ≡ d → ⊥) → AllByRecursion (λ r. card r ≡ d) rs → filter (λ r. same_ref c (card r)) rs ≡ []
  none_kept c d [] differ all = refl
  none_kept c d (r ∷ rs) differ all =
      let other : same_ref c (card r) ≡ false = subst (λ e. same_ref c e ≡ false) (sym all.0) (other_ref c d differ) in
      ap (λ b. cond b (r ∷ filter (λ s. same_ref c (card s)) rs) (filter (λ s. same_ref c (card s)) rs)) other ∙ none_kept c d rs differ all.1

  none_of_others : (c : CardRef) (xs : List X) → AllByRecursion (λ x. c ≡ ref x → ⊥) xs → filter (λ r. same_ref c (card r)) (flat_map rows xs) ≡ []
  none_of_others c [] all = refl
  none_of_others c (x ∷ xs) all =
      filter-append (λ r. same_ref c (card r)) (rows x) (flat_map rows xs)
      ∙ λ i. none_kept c (ref x) (rows x) all.0 (of x) i ++ none_of_others c xs all.1 i

  apart_from : (x : X) (xs : List X) → AllByRecursion (λ d. ref x ≡ d → ⊥) (map ref xs) → AllByRecursion (λ y. ref x ≡ ref y → ⊥) xs
  apart_from x [] all = tt
  apart_from x (y ∷ xs) all = (all.0, apart_from x xs all.1)

  -- where no two have one reference
  pub own_rows : (xs : List X) → AreApart (map ref xs) → AllByRecursion (λ x. filter (λ r. same_ref (ref x) (card r)) (flat_map rows xs) ≡ rows x) xs
  own_rows [] apart = tt
  own_rows (x ∷ xs) apart = (
    filter-append (λ r. same_ref (ref x) (card r)) (rows x) (flat_map rows xs)
        ∙ (λ i. own_kept (ref x) (rows x) (of x) i ++ none_of_others (ref x) xs (apart_from x xs apart.0) i) ∙ append-nil (rows x),
    behind xs (apart_from x xs apart.0) (own_rows xs apart.1),
  )
    where
      behind : (ys : List X) → AllByRecursion (λ y. ref x ≡ ref y → ⊥) ys
          → AllByRecursion (λ y. filter (λ r. same_ref (ref y) (card r)) (flat_map rows xs) ≡ rows y) ys
          → AllByRecursion (λ y. filter (λ r. same_ref (ref y) (card r)) (rows x ++ flat_map rows xs) ≡ rows y) ys
      behind [] differ all = tt
      behind (y ∷ ys) differ all = (
        filter-append (λ r. same_ref (ref y) (card r)) (rows x) (flat_map rows xs)
            ∙ (λ i. none_kept (ref y) (ref x) (rows x) (λ e. differ.0 (sym e)) (of x) i ++ all.0 i),
        behind ys differ.1 all.1,
      )

-- ---- the rows of a card's history and of its targets

pub of_entries : (card : CardRef) (n : ℕ) (es : List Entry) → AllByRecursion (λ r. r.card ≡ card) (entry_rows card n es)
of_entries card n [] = tt
of_entries card n (e ∷ es) = (refl, of_entries card (n + 1) es)

pub of_targets : (card : CardRef) (n : ℕ) (ts : List Target) → AllByRecursion (λ r. r.card ≡ card) (target_rows card n ts)
of_targets card n [] = tt
of_targets card n (t ∷ ts) = (refl, of_targets card (n + 1) ts)

entries_behind : (r : EntryRow) (n : ℕ) (es : List Entry) → r.ord < n
    → AllByRecursion (λ s. row_below (λ r. r.card) (λ r. r.ord) r s ≡ true) (entry_rows r.card n es)
entries_behind r n [] less = tt
entries_behind r n (e ∷ es) less =
    let next : EntryRow = record { card = r.card; ord = n; entry = e } in
    (row_later (λ r. r.card) (λ r. r.ord) r next refl less, entries_behind r (n + 1) es (omega arith))

targets_behind : (r : TargetRow) (n : ℕ) (ts : List Target) → r.ord < n
    → AllByRecursion (λ s. row_below (λ r. r.card) (λ r. r.ord) r s ≡ true) (target_rows r.card n ts)
targets_behind r n [] less = tt
targets_behind r n (t ∷ ts) less =
    let next : TargetRow = record { card = r.card; ord = n; target = t } in
    (row_later (λ r. r.card) (λ r. r.ord) r next refl less, targets_behind r (n + 1) ts (omega arith))

pub entries_rise : (card : CardRef) (n : ℕ) (es : List Entry) → IsRising (row_below (λ r. r.card) (λ r. r.ord)) (entry_rows card n es)
entries_rise card n [] = tt
entries_rise card n (e ∷ es) = (entries_behind (record { card = card; ord = n; entry = e }) (n + 1) es (omega arith), entries_rise card (n + 1) es)

pub targets_rise : (card : CardRef) (n : ℕ) (ts : List Target) → IsRising (row_below (λ r. r.card) (λ r. r.ord)) (target_rows card n ts)
targets_rise card n [] = tt
targets_rise card n (t ∷ ts) = (targets_behind (record { card = card; ord = n; target = t }) (n + 1) ts (omega arith), targets_rise card (n + 1) ts)

pub entries_again : (card : CardRef) (n : ℕ) (es : List Entry) → map (λ r. r.entry) (entry_rows card n es) ≡ es
entries_again card n [] = refl
entries_again card n (e ∷ es) = ap (λ fs. e ∷ fs) (entries_again card (n + 1) es)

pub targets_again : (card : CardRef) (n : ℕ) (ts : List Target) → map (λ r. r.target) (target_rows card n ts) ≡ ts
targets_again card n [] = refl
targets_again card n (t ∷ ts) = ap (λ us. t ∷ us) (targets_again card (n + 1) ts)
