-- What is put after all rows, taken out or changed in place leaves the rest in its order: equations between lists.
use Rattle.std.proofs.Common.{◌≡◌, inl, inr, ℤ, pos, ◌+ℤ◌, ◌<ℤ◌, Bool, true, false, not, if◌then◌else◌, List, [], ◌∷◌, ◌++◌, map, drop, filter, fold, refl, sym}
use Rattle.std.proofs.Common.{ap, ap₂, subst, ◌∙◌, arith, Less, int_cmp, IsTrue, IsPermutation}
use Rattle.std.specs.List.{AllByRecursion}
use Rattle.std.specs.Ordering.{ordering_reverse}
use Rattle.std.proofs.lemmas.Bool.{cases_Bool, both_ways, not-true, and_parts}
use Rattle.std.proofs.lemmas.Bool.Decides.{nat_tests}
use Rattle.std.proofs.lemmas.Cmp.{tied_itself}
use Rattle.std.proofs.lemmas.Int.{ints}
use Rattle.std.proofs.lemmas.List.Elements.{All-from_recursion, recursion_from_All}
use Rattle.std.proofs.lemmas.List.Sorted.{IsPermutation-sym, All-permutation}
use Rattle.sqlite_value.specs.declared.value.Value.TheVariants.{Int}
use Rattle.sqlite_value.specs.Order.{Row, value_cmp}
use Rattle.sqlite_value.proofs.OrderLemmas.{value_cmp_total, value_cmp-Int}
use Rattle.sqlite_trees.specs.declared.store.Shape.TheVariants.{Table}
use Rattle.sqlite_trees.specs.Tree.{rowid, IsTable, has_rowid, put_row, without_rowid}
use Rattle.sqlite_trees.specs.View.{is_int, IsShaped}
use Rattle.sqlite_trees.proofs.TreeLemmas.{IsShaped-filter, IsShaped-put_row}
use Rattle.sqlite_rules.specs.Lists.{Has}
use Rattle.sqlite_rules.specs.Calls.{ids_of}
use Rattle.sqlite_rules.specs.Edit.{id_in, next_rowid, without_all, put_all, are_fresh, have_rowids, row_at}
use Rattle.sqlite_rules.proofs.ListLemmas.{all_has, all_from, has_filtered, has_kept}
use Rattle.sqlite_rules.proofs.PlaceLemmas.{row_at_is, left_or_taken}
use Rattle.sqlite_rules.proofs.TableLemmas.{int_is, put_all_has, put_all_keeps, put_all_adds, without_all_has}
use Rattle.std.proofs.lemmas.List.{map-append}

-- ---- membership

pub has_mapped : {A B : Type 0} (f : A → B) (xs : List A) (x : A) → Has xs x → Has (map f xs) (f x)
has_mapped f [] x h = absurd h
has_mapped f (y ∷ xs) x (inl e) = inl (ap f e)
has_mapped f (y ∷ xs) x (inr h) = inr (has_mapped f xs x h)

pub mapped_from : {A B : Type 0} (f : A → B) (xs : List A) (y : B) → Has (map f xs) y → (x : A) × Has xs x × (y ≡ f x)
mapped_from f [] y h = absurd h
mapped_from f (x ∷ xs) y (inl e) = (x, inl refl, e)
mapped_from f (x ∷ xs) y (inr h) = let r = mapped_from f xs y h in (r.0, inr r.1, r.2)

pub has_permuted : {A : Type 0} (xs ys : List A) (x : A) → IsPermutation xs ys → Has xs x → Has ys x
has_permuted xs ys x same =
    all_has (Has ys) xs x (recursion_from_All (Has ys) xs (All-permutation (Has ys) ys xs (IsPermutation-sym xs ys same)
    (All-from_recursion (Has ys) ys (all_from (Has ys) ys (λ y h. h)))))

-- ---- two tables with the same rows are one

never_both : (a b : Row) → value_cmp (rowid a) (rowid b) ≡ Less → value_cmp (rowid b) (rowid a) ≡ Less → ⊥
never_both a b p q = let e = value_cmp_total.antisymm (rowid a) (rowid b) ∙ ap ordering_reverse q in cc

pub same_rows : (xs ys : List Row) → IsTable xs → IsTable ys → ((r : Row) → Has xs r → Has ys r) → ((r : Row) → Has ys r → Has xs r) → xs ≡ ys
same_rows [] [] p q a b = refl
same_rows [] (y ∷ ys) p q a b = absurd (b y (inl refl))
same_rows (x ∷ xs) [] p q a b = absurd (a x (inl refl))
same_rows (x ∷ xs) (y ∷ ys) p q a b =
    let first : x ≡ y = elim (a x (inl refl)) [
      | inl e ↦ e
      | inr later ↦ elim (b y (inl refl)) [ inl e ↦ sym e | inr also ↦ absurd (never_both x y (all_has _ xs y p.0 also) (all_has _ ys x q.0 later)) ]
    ] in
    let past = λ (z : Row) (zs : List Row) (up : AllByRecursion (λ r. value_cmp (rowid z) (rowid r) ≡ Less) zs) (r : Row) (h : Has zs r) (e : r ≡ z).
    let lower = rw e at (all_has _ zs r up h) in never_both z z lower lower in
    ap₂ ◌∷◌ first (same_rows xs ys p.1 q.1
    (λ r h. elim (a r (inr h)) [ inl e ↦ absurd (past x xs p.0 r h (e ∙ sym first)) | inr k ↦ k ])
    (λ r h. elim (b r (inr h)) [ inl e ↦ absurd (past y ys q.0 r h (e ∙ first)) | inr k ↦ k ]))

-- ---- a row that is put after all others

lower_than : (a b c : ℤ) → int_cmp a b ≡ Less → b <ℤ c → a <ℤ c
lower_than a b c p q = grind (arith, ints, nat_tests)

cmp_less : (a b : ℤ) → a <ℤ b → int_cmp a b ≡ Less
cmp_less a b h = grind (arith, ints, nat_tests)

abbrev step_rowid : ℤ → Row → ℤ
step_rowid n r = id_in (rowid r) +ℤ pos 1

below_next : (x : Row) (rows : List Row) → IsTable (x ∷ rows) → AllByRecursion (λ r. IsTrue (is_int (rowid r))) (x ∷ rows)
    → AllByRecursion (λ r. id_in (rowid r) <ℤ fold step_rowid (step_rowid (pos 1) x) rows) (x ∷ rows)
below_next x [] up keyed = (omega (arith, ints), tt)
below_next x (y ∷ rows) up keyed =
    let later = below_next y rows up.1 keyed.1 in
    let lower = rw (int_is (rowid x) keyed.0, int_is (rowid y) keyed.1.0, value_cmp-Int (id_in (rowid x)) (id_in (rowid y))) at up.0.0 in
    (lower_than (id_in (rowid x)) (id_in (rowid y)) _ lower later.0, later)

all_below : (next : ℤ) (vs : Row) (rows : List Row) → AllByRecursion (λ r. IsTrue (is_int (rowid r))) rows → AllByRecursion (λ r. id_in (rowid r) <ℤ next) rows
    → AllByRecursion (λ r. value_cmp (rowid r) (rowid (Int next ∷ vs)) ≡ Less) rows
all_below next vs [] keyed low = tt
all_below next vs (x ∷ rows) keyed low = (
  rw (int_is (rowid x) keyed.0, value_cmp-Int (id_in (rowid x)) next) (cmp_less _ _ low.0),
  all_below next vs rows keyed.1 low.1,
)

below_new : (rows : List Row) (vs : Row) → IsShaped Table rows → AllByRecursion (λ r. value_cmp (rowid r) (rowid (Int (next_rowid rows) ∷ vs)) ≡ Less) rows
below_new [] vs h = tt
below_new (x ∷ rows) vs h = all_below _ vs (x ∷ rows) h.1 (below_next x rows h.0 h.1)

put_last : (new : Row) (rows : List Row) → AllByRecursion (λ r. value_cmp (rowid r) (rowid new) ≡ Less) rows → put_row new rows ≡ rows ++ new ∷ []
put_last new [] h = refl
put_last new (r ∷ rows) h = rw h.0 (ap (λ l. r ∷ l) (put_last new rows h.1))

-- a row with the next rowid is at the end
pub put_new : (rows : List Row) (vs : Row) → IsShaped Table rows
    → IsShaped Table (put_row (Int (next_rowid rows) ∷ vs) rows) × (map (drop 1) (put_row (Int (next_rowid rows) ∷ vs) rows) ≡ map (drop 1) rows ++ vs ∷ [])
put_new rows vs h = (
  IsShaped-put_row (Int (next_rowid rows) ∷ vs) rows refl h,
  ap (map (drop 1)) (put_last _ rows (below_new rows vs h)) ∙ map-append (drop 1) rows _,
)

-- ---- rows that are taken out

shaped_left : (ids : List ℤ) (rows : List Row) → IsShaped Table rows → IsShaped Table (without_all rows ids)
shaped_left [] rows h = h
shaped_left (id ∷ ids) rows h = shaped_left ids (without_rowid id rows) (IsShaped-filter Table _ rows h)

left_lacks : (ids : List ℤ) (rows : List Row) (x : Row) → Has (without_all rows ids) x → AllByRecursion (λ id. has_rowid id x ≡ false) ids
left_lacks [] rows x h = tt
left_lacks (id ∷ ids) rows x h =
    (not-true _ (has_filtered _ rows x (without_all_has ids (without_rowid id rows) x h)).1, left_lacks ids (without_rowid id rows) x h)

own_rowid : (r : Row) → IsTrue (is_int (rowid r)) → has_rowid (id_in (rowid r)) r ≡ true
own_rowid r keyed = rw (int_is (rowid r) keyed, tied_itself value_cmp_total (Int (id_in (rowid r))))

module _ (p : Row → Bool) (rows : List Row) (found : List Row) (shaped : IsShaped Table rows)
    (own : (r : Row) → Has rows r → p r ≡ true → Has (ids_of found) (id_in (rowid r)))
    (only : (id : ℤ) → Has (ids_of found) id → (r : Row) × Has rows r × (p r ≡ true) × (id ≡ id_in (rowid r))) where
  left_passes : (x : Row) → Has (without_all rows (ids_of found)) x → Has (filter (λ r. not (p r)) rows) x
  left_passes x h =
      let was = without_all_has (ids_of found) rows x h in
      elim (cases_Bool (p x)) [
        | inl yes' ↦ absurd (both_ways _ (all_has _ (ids_of found) _ (left_lacks (ids_of found) rows x h) (own x was yes'))
            (own_rowid x (all_has _ rows x shaped.1 was)))
        | inr no' ↦ has_kept _ rows x was (ap not no')
      ]

  passes_left : (x : Row) → Has (filter (λ r. not (p r)) rows) x → Has (without_all rows (ids_of found)) x
  passes_left x h =
      let was = has_filtered _ rows x h in
      elim (left_or_taken rows (ids_of found) x shaped.0 was.0) [
        | inl left ↦ left
        | inr taken ↦
            let at = mapped_from (row_at rows) (ids_of found) x taken in
            let it = only at.0 at.1 in
            let same : row_at rows at.0 ≡ it.0 = row_at_is rows at.0 it.0 shaped.0 it.1
            (subst (λ id. has_rowid id it.0 ≡ true) (sym it.3) (own_rowid it.0 (all_has _ rows it.0 shaped.1 it.1))) in
            absurd (both_ways (p x) (not-true _ was.1) (ap p (at.2 ∙ same) ∙ it.2))
      ]

  pub left_is : without_all rows (ids_of found) ≡ filter (λ r. not (p r)) rows
  left_is = same_rows _ _ (shaped_left (ids_of found) rows shaped).0 (IsShaped-filter Table _ rows shaped).0 left_passes passes_left

-- ---- rows that are changed in place

shaped_put : (news rows : List Row) → have_rowids news ≡ true → IsShaped Table rows → IsShaped Table (put_all rows news)
shaped_put [] rows keyed h = h
shaped_put (n ∷ news) rows keyed h =
    let parts = and_parts (is_int (rowid n)) _ keyed in shaped_put news (put_row n rows) parts.1 (IsShaped-put_row n rows parts.0 h)

-- each row that passes is replaced by one of its own rowid, and the others stay
abbrev pub in_place : (Row → Bool) → (Row → Row) → Row → Row
in_place p g r = if p r then g r else r

module _ (p : Row → Bool) (g : Row → Row) (same_id : (r : Row) → rowid (g r) ≡ rowid r) where
  kept_id : (r : Row) → rowid (in_place p g r) ≡ rowid r
  kept_id r = elim (p r) as (λ b. rowid (if b then g r else r) ≡ rowid r) [ true ↦ same_id r | false ↦ refl ]

  all_above : (r : Row) (rows : List Row) → AllByRecursion (λ s. value_cmp (rowid r) (rowid s) ≡ Less) rows
      → AllByRecursion (λ s. value_cmp (rowid (in_place p g r)) (rowid s) ≡ Less) (map (in_place p g) rows)
  all_above r [] h = tt
  all_above r (s ∷ rows) h = (rw (kept_id r, kept_id s) h.0, all_above r rows h.1)

  replaced_table : (rows : List Row) → IsTable rows → IsTable (map (in_place p g) rows)
  replaced_table [] h = tt
  replaced_table (r ∷ rows) h = (all_above r rows h.0, replaced_table rows h.1)

  module _ (rows left news : List Row) (shaped : IsShaped Table rows) (left_is : left ≡ filter (λ r. not (p r)) rows)
      (news_are : IsPermutation (map g (filter p rows)) news) (keyed : have_rowids news ≡ true) (fresh : are_fresh left news ≡ true) where
    put_replaces : (x : Row) → Has (put_all left news) x → Has (map (in_place p g) rows) x
    put_replaces x h = elim (put_all_has news left x h) [
      | inl new ↦
          let it = mapped_from g (filter p rows) x (has_permuted news (map g (filter p rows)) x (IsPermutation-sym _ _ news_are) new) in
          let was = has_filtered p rows it.0 it.1 in
          let same : in_place p g it.0 ≡ x = ap (λ b. if b then g it.0 else it.0) was.1 ∙ sym it.2 in
          subst (Has (map (in_place p g) rows)) same (has_mapped (in_place p g) rows it.0 was.0)
      | inr old ↦
          let was = has_filtered _ rows x (subst (λ l. Has l x) left_is old) in
          let same : in_place p g x ≡ x = ap (λ b. if b then g x else x) (not-true _ was.1) in
          subst (Has (map (in_place p g) rows)) same (has_mapped (in_place p g) rows x was.0)
    ]

    replaced_put : (x : Row) → Has (map (in_place p g) rows) x → Has (put_all left news) x
    replaced_put x h =
        let it = mapped_from (in_place p g) rows x h in
        elim (cases_Bool (p it.0)) [
          | inl yes' ↦
              let same : x ≡ g it.0 = it.2 ∙ ap (λ b. if b then g it.0 else it.0) yes' in
              subst (Has (put_all left news)) (sym same)
              (put_all_adds news left (g it.0) fresh (has_permuted (map g (filter p rows)) news (g it.0) news_are
              (has_mapped g (filter p rows) it.0 (has_kept p rows it.0 it.1 yes'))))
          | inr no' ↦
              let same : x ≡ it.0 = it.2 ∙ ap (λ b. if b then g it.0 else it.0) no' in
              subst (Has (put_all left news)) (sym same) (put_all_keeps news left it.0 fresh
              (subst (λ l. Has l it.0) (sym left_is) (has_kept _ rows it.0 it.1 (ap not no'))))
        ]

    pub replaced_is : put_all left news ≡ map (in_place p g) rows
    replaced_is =
        let held : IsShaped Table left = subst (IsShaped Table) (sym left_is) (IsShaped-filter Table _ rows shaped) in
        same_rows _ _ (shaped_put news left keyed held).0 (replaced_table rows shaped.0) put_replaces replaced_put

    pub replaced_shaped : IsShaped Table (map (in_place p g) rows)
    replaced_shaped = subst (IsShaped Table) replaced_is (shaped_put news left keyed
        (subst (IsShaped Table) (sym left_is) (IsShaped-filter Table _ rows shaped)))
