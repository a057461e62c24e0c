-- The answer of a plain query: the rows that pass, each shown, in some order.
use Rattle.std.proofs.Common.{Less, Equal, subst, ◌≡◌, ℕ, Bool, true, false, if◌then◌else◌, List, [], ◌∷◌, ◌++◌, map, filter, flat_map, refl, sym, ap, ◌∙◌}
use Rattle.std.proofs.Common.{IsPermutation, IsSorted}
use Rattle.std.specs.List.{list_all}
use Rattle.std.proofs.lemmas.List.Sorted.{IsPermutation-trans, IsPermutation-map}
use Rattle.sqlite_value.specs.declared.keys.Key.{Key}
use Rattle.sqlite_value.specs.declared.value.Value.TheVariants.{Null}
use Rattle.sqlite_value.specs.Order.{Row, value_cmp}
use Rattle.sqlite_trees.specs.Tree.{Trees, rowid, IsTable, IsAscending}
use Rattle.sqlite_sql.specs.Term.{Term, eval_all, holds}
use Rattle.sqlite_sql.specs.Query.{Query, Output, IsAnswer, IsSureAnswer, output, output_cmp}
use Rattle.sqlite_sql.specs.Program.{overlay}
use Rattle.sqlite_keyed.proofs.ListLemmas.{map-map, IsPermutation-same, ascending-map, ascending_weaker, ascending-filter}
use Rattle.sqlite_keyed.proofs.SortLemmas.{sorted_unique}
use Rattle.sqlite_sql.proofs.QueryLemmas.{output_cmp_total}
use Rattle.std.specs.Ordering.{ordering_then}
use Rattle.upd_sqlite.specs.Keyed.{plain_query, row_order}

pick_as_filter : {A B : Type 0} (p : A → Bool) (f : A → B) (xs : List A) → flat_map (λ x. if p x then f x ∷ [] else []) xs ≡ map f (filter p xs)
pick_as_filter p f [] = refl
pick_as_filter p f (x ∷ xs) =
    elim (p x) as (λ b. (if b then f x ∷ [] else []) ++ flat_map (λ y. if p y then f y ∷ [] else []) xs ≡ map f (if b then x ∷ filter p xs else filter p xs))
    [ true ↦ ap (λ l. f x ∷ l) (pick_as_filter p f xs) | false ↦ pick_as_filter p f xs ]

module _ (tree : ℕ) (tests project : List Term) (order : List (Term × Key)) (params : Row) (trees : Trees) (own : overlay trees [] tree ≡ trees tree) where
  abbrev pub passes : Row → Bool
  passes r = list_all (holds (params ∷ r ∷ [])) tests

  abbrev pub shown : Row → Row
  shown r = eval_all project (params ∷ r ∷ [])

  abbrev put_out : Row → Output
  put_out r = output (plain_query tree tests project order) (params ∷ r ∷ [])

  -- what is put out of the rows that pass, in an order that ORDER BY allows, and what is shown of it
  pub outputs : (rows : List Row) → IsSureAnswer (plain_query tree tests project order) (overlay trees []) params rows
      → (outs : List Output) × IsPermutation (map put_out (filter passes (trees tree))) outs × IsSorted (output_cmp (plain_query tree tests project order)) outs
      × (rows ≡ map (λ (o : Output). o.1) outs)
  outputs rows sure =
      let a : IsAnswer (plain_query tree tests project order) (overlay trees []) params rows = sure Null in
      let staged : a.staged ≡ map (λ r. params ∷ r ∷ []) (filter passes (trees tree)) =
      a.grouped ∙ pick_as_filter passes (λ r. params ∷ r ∷ []) (overlay trees [] tree) ∙ ap (λ rs. map (λ r. params ∷ r ∷ []) (filter passes rs)) own in
      let kept : a.kept ≡ map put_out (filter passes (trees tree)) = a.distinct ∙ ap (map (output (plain_query tree tests project order))) staged
      ∙ map-map _ _ _ in
      (a.ordered, subst (λ k. IsPermutation k a.ordered) kept a.same, a.sorted, a.shown)

  pub any_order : (rows : List Row) → IsSureAnswer (plain_query tree tests project order) (overlay trees []) params rows
      → IsPermutation (map shown (filter passes (trees tree))) rows
  any_order rows sure =
      let found = outputs rows sure in
      let outs : IsPermutation (map (λ (o : Output). o.1) (map put_out (filter passes (trees tree)))) (map (λ (o : Output). o.1) found.0) =
      IsPermutation-map _ _ found.0 found.1 in
      IsPermutation-trans _ _ _ (IsPermutation-same _ _ (sym (map-map (λ (o : Output). o.1) put_out _)))
      (IsPermutation-trans _ _ _ outs (IsPermutation-same _ _ (sym found.3)))

-- by rowid the answer is the rows that pass, in the order of the table
module _ (tree : ℕ) (tests project : List Term) (params : Row) (trees : Trees) (own : overlay trees [] tree ≡ trees tree) (rise : IsTable (trees tree)) where
  abbrev by_rowid : Query
  by_rowid = plain_query tree tests project row_order

  abbrev put_by_rowid : Row → Output
  put_by_rowid r = output by_rowid (params ∷ r ∷ [])

  later_output : (a b : Row) → value_cmp (rowid a) (rowid b) ≡ Less → output_cmp by_rowid (put_by_rowid a) (put_by_rowid b) ≡ Less
  later_output a b h = ap (λ o. ordering_then o Equal) h

  pub row_order_is : (rows : List Row) → IsSureAnswer by_rowid (overlay trees []) params rows → rows
      ≡ map (λ r. eval_all project (params ∷ r ∷ [])) (filter (λ r. list_all (holds (params ∷ r ∷ [])) tests) (trees tree))
  row_order_is rows sure =
      let passes = λ (r : Row). list_all (holds (params ∷ r ∷ [])) tests in
      let passing = filter passes (trees tree) in
      let a : IsAnswer by_rowid (overlay trees []) params rows = sure Null in
      let staged : a.staged ≡ map (λ r. params ∷ r ∷ []) passing = a.grouped ∙ pick_as_filter passes (λ r. params ∷ r ∷ []) (overlay trees [] tree)
      ∙ ap (λ rs. map (λ r. params ∷ r ∷ []) (filter passes rs)) own in
      let kept : a.kept ≡ map put_by_rowid passing = a.distinct ∙ ap (map (output by_rowid)) staged ∙ map-map _ _ _ in
      let up : IsAscending (λ x y. output_cmp by_rowid x y ≡ Less) (map put_by_rowid passing) =
      ascending-map (λ x y. output_cmp by_rowid x y ≡ Less) put_by_rowid passing
      (ascending_weaker _ _ later_output passing (ascending-filter _ passes (trees tree) rise)) in
      let ordered : a.ordered ≡ map put_by_rowid passing = sorted_unique (output_cmp by_rowid) (output_cmp_total by_rowid) _ a.ordered up
      (subst (λ k. IsPermutation k a.ordered) kept a.same) a.sorted in
      a.shown ∙ ap (map (λ (o : Output). o.1)) ordered ∙ map-map (λ (o : Output). o.1) put_by_rowid passing
