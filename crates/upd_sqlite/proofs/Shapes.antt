-- What an INSERT, a DELETE, an UPDATE, a SELECT and a CREATE TABLE of the plain kinds do to the rows of the tables.
use Rattle.std.proofs.Common.{if◌then◌else◌, ◌≡◌, ◌≢◌, ◌⊎◌, inl, inr, ℕ, ◌/◌, ℤ, Bool, true, false, not, cond, List, [], ◌∷◌, ◌++◌, map, drop, length, filter}
use Rattle.std.proofs.Common.{slice_get, Some, None, Result, Ok, Err, refl, sym, ap, subst, ◌∙◌, IsPermutation, IsSorted, IsTrue, unwrap_or}
use Rattle.std.specs.List.{AllByRecursion, list_all}
use Rattle.std.specs.Ordering.{on}
use Rattle.std.proofs.lemmas.List.{length-map}
use Rattle.std.proofs.lemmas.List.Sorted.{IsPermutation-map, IsPermutation-sym, IsPermutation-trans, length_permutation}
use Rattle.sqlite_value.specs.declared.keys.Key.{Key}
use Rattle.sqlite_value.specs.declared.value.Value.{Value}
use Rattle.sqlite_value.specs.declared.value.Value.TheVariants.{Null, Int}
use Rattle.sqlite_value.specs.Order.{Row}
use Rattle.sqlite_trees.specs.declared.store.Shape.TheVariants as shape
use Rattle.sqlite_trees.specs.Tree.{Trees, rowid, put_row}
use Rattle.sqlite_trees.specs.View.{is_int, IsShaped}
use Rattle.sqlite_trees.proofs.TreeLemmas.{IsShaped-filter}
use Rattle.sqlite_sql.specs.Term.{Term, col, eval_all, holds}
use Rattle.sqlite_sql.specs.Ops.{unary}
use Rattle.sqlite_sql.specs.Query.{Output, output, key_cmp}
use Rattle.sqlite_sql.specs.Program.{overlay}
use Rattle.sqlite_schema.specs.declared.schema.Kind.TheVariants.{Integer}
use Rattle.sqlite_schema.specs.declared.schema.Keys.TheVariants.{Enforced}
use Rattle.sqlite_schema.specs.declared.schema.Column.{Column}
use Rattle.sqlite_schema.specs.declared.schema.Table.{Table}
use Rattle.sqlite_schema.specs.declared.schema.Schema.{Schema}
use Rattle.sqlite_schema.specs.declared.command.Command.TheVariants.{Insert, Delete, Update, Select, CreateTable}
use Rattle.sqlite_schema.specs.declared.command.Source.TheVariants.{Values}
use Rattle.sqlite_rules.specs.declared.error.Rowids.TheVariants.{Chosen, Given}
use Rattle.sqlite_rules.specs.Cast.{cast, cast_all, cast_row}
use Rattle.sqlite_rules.specs.Lists.{Has}
use Rattle.sqlite_rules.specs.Calls.{ids_of}
use Rattle.sqlite_rules.specs.Action.{works}
use Rattle.sqlite_rules.specs.Edit.{Edit, edit_of, edited, id_in, next_rowid, taken_by, without_all, Applies}
use Rattle.sqlite_rules.proofs.ListLemmas.{has_filtered}
use Rattle.sqlite_rules.proofs.PlaceLemmas.{given}
use Rattle.sqlite_rules.proofs.TableLemmas.{int_is}
use Rattle.sqlite_keyed.proofs.ListLemmas.{map-map, filter-map, filter_same, all-filter, IsPermutation-same}
use Rattle.sqlite_catalog.specs.Change.{created, next_tree}
use Rattle.sqlite_resolve.specs.Compile.{table_defined_by}
use Rattle.sqlite.specs.Effect.{Database, Answers, Reads, value_rows}
use Rattle.sqlite.specs.Rows.{Written}
use Rattle.sqlite.specs.Does.{Tally, Does, AtPlace, OnRows, lacks_sequence}
use Rattle.sqlite.specs.State.{State, mode_of, Writes}
use Rattle.sqlite.proofs.Callers.{one_step}
use Rattle.upd_sqlite.specs.Keyed.{keyed, plain_query, row_order}
use Rattle.upd_sqlite.specs.Stored.{HasAllRows, HoldsAllRows, rows_at, with_rows}
use Rattle.upd_sqlite.proofs.Trees.{has_mapped, mapped_from, has_permuted, put_new, left_is, in_place, replaced_is, replaced_shaped}
use Rattle.upd_sqlite.proofs.Queries.{any_order, outputs, row_order_is}
use Rattle.upd_sqlite.proofs.Frames.{is_lone, framed, rows_there, shown_there, with_table}

-- ---- casts of the values that such a table takes

either : (b : Bool) (x : Value) → cond b x x ≡ x
either true x = refl
either false x = refl

pub cast_null : cast Integer Null ≡ Null
unfolding unary
cast_null = either _ Null

pub cast_int : (n : ℤ) → cast Integer (Int n) ≡ Int n
unfolding unary
cast_int n = either _ (Int n)

-- ---- the parts of a statement that went through

went : {B E R : Type 0} {b : B} {Stops : E → Type 0} → ((stop : E) × Stops stop × (Ok b ≡ Err stop)) ⊎ R → R
went (inl stopped) = absurd (let e = stopped.2 in cc)
went (inr on) = on

same_value : {B E : Type 0} {a b : B} → ◌≡◌ {A = Result B E} (Ok a) (Ok b) → a ≡ b
same_value e = cc

-- ---- what a query found, by rowid

module _ (p : Row → Bool) (shown : Row → Row) (same_id : (r : Row) → rowid (shown r) ≡ rowid r) (rows found : List Row)
    (are : IsPermutation (map shown (filter p rows)) found) where
  own_ids : (r : Row) → Has rows r → p r ≡ true → Has (ids_of found) (id_in (rowid r))
  own_ids r h passes =
      subst (λ v. Has (ids_of found) (id_in v)) (same_id r)
      (has_mapped (λ x. id_in (rowid x)) found (shown r) (has_permuted _ found (shown r) are
      (has_mapped shown (filter p rows) r (Rattle.sqlite_rules.proofs.ListLemmas.has_kept p rows r h passes))))

  only_ids : (id : ℤ) → Has (ids_of found) id → (r : Row) × Has rows r × (p r ≡ true) × (id ≡ id_in (rowid r))
  only_ids id h =
      let at = mapped_from (λ x. id_in (rowid x)) found id h in
      let it = mapped_from shown (filter p rows) at.0 (has_permuted found _ at.0 (IsPermutation-sym _ _ are) at.1) in
      let was = has_filtered p rows it.0 it.1 in
      (it.0, was.0, was.1, at.2 ∙ ap (λ x. id_in (rowid x)) it.2 ∙ ap id_in (same_id it.0))

  left_found : IsShaped shape.Table rows → without_all rows (ids_of found) ≡ filter (λ r. not (p r)) rows
  left_found shaped = left_is p rows found shaped own_ids only_ids

mapped_on : {A B : Type 0} (f g : A → B) (xs : List A) → AllByRecursion (λ x. f x ≡ g x) xs → map f xs ≡ map g xs
mapped_on f g [] h = refl
mapped_on f g (x ∷ xs) h = ap (λ y. y ∷ map f xs) h.0 ∙ ap (λ l. g x ∷ l) (mapped_on f g xs h.1)

module _ (schema : Schema) (k tree : ℕ) (name : List ℕ) (columns : List Column) (key : List ℕ) (at : slice_get schema.tables k
    ≡ Some (keyed tree name columns key))
    (alone : is_lone tree k schema.tables ≡ true) (free : (olds news : List Row) → works schema Enforced 0 tree olds news ≡ [])
    (old new : State) (all : List (List Row)) (text : List ℕ) (params : Row) (count : ℕ) (h : HoldsAllRows schema all old.now) where
  abbrev table : Table
  table = keyed tree name columns key

  there : IsShaped shape.Table (old.now.trees tree) × (map (drop 1) (old.now.trees tree) ≡ rows_at k all)
  there = rows_there tree old.now.trees k schema.tables all alone h.rows_are

  -- other rows only in this table
  changed : (trees : Trees) (edit : Edit) (rows : List Row) → new.now ≡ record { schema = schema; trees = trees } → edit.table ≡ table
      → Applies schema Enforced old.now.trees edit trees
      → IsShaped shape.Table (trees tree) → map (drop 1) (trees tree) ≡ rows → HoldsAllRows schema (with_rows k rows all) new.now
  changed trees edit rows now same a shaped is =
      let spares = subst (λ (t : Table). AllByRecursion (λ u. u.tree ≢ t.tree → trees u.tree ≡ old.now.trees u.tree) schema.tables) same a.tables in
      subst (HoldsAllRows schema (with_rows k rows all)) (sym now) (record {
        schema_is = refl;
        rows_are =
            framed tree old.now.trees trees k schema.tables all rows alone spares shaped is h.rows_are;
      })

  -- an INSERT of one row of parameters
  pub inserts : (terms : List Term) (width : ℕ) (values : Row) → value_rows (params ++ []) width (length terms / width) terms ≡ (Null ∷ values) ∷ []
      → Writes old new None (Insert k (Values terms width)) text params count
      → HoldsAllRows schema (with_rows k (rows_at k all ++ cast_all columns values ∷ []) all) new.now
  inserts terms width values source w =
      let command = Insert k (Values terms width) in
      let db = old.now.trees in
      let does = subst (λ s. Does old.step_limit (mode_of old) params (record old.now { schema = s }) text None command (Ok (w.tally, new.now))) h.schema_is
      w.changed in
      let on = subst (λ o. AtPlace (λ t. OnRows (record { limit = old.step_limit; keys = Enforced; schema = schema; table = t; params = params })
      (mode_of old) None command db) o (Ok (w.tally, new.now))) at does in
      let done = went on in
      let now = ap (λ (p : Tally × Database). p.1) (same_value (went (went done.2).2).2) in
      let found = went done.1 in
      let mid = went (went found.2).2 in
      let counted = went mid.2 in
      let trees : done.0.trees ≡ mid.0 = ap (λ (it : Written). it.trees) (same_value counted.2) ∙ same_value counted.1 in
      let edit : Edit = edit_of db table [] Chosen 0 found.0 in
      let applied = one_step schema Enforced db mid.0 edit (free (taken_by db edit) edit.news) mid.1 in
      let new_row : Row = Int (next_rowid (db tree)) ∷ cast_all columns values in
      let rows : mid.0 tree ≡ put_row new_row (db tree) =
      applied.rows ∙ ap (λ sources. edited db (edit_of db table [] Chosen 0 sources)) (found.1.1 ∙ source) ∙ rw cast_null refl in
      let put = put_new (db tree) (cast_all columns values) there.0 in
      changed mid.0 edit _ (now ∙ ap (λ (t : Trees). record { schema = schema; trees = t }) trees) refl applied (subst (IsShaped shape.Table) (sym rows) put.0)
      (ap (map (drop 1)) rows ∙ put.1 ∙ ap (λ rs. rs ++ cast_all columns values ∷ []) there.1)

  -- the answer of a DELETE's or an UPDATE's own query: what it shows of each row that passes
  module _ (tests project : List Term) (order : List (Term × Key)) (own : overlay old.now.trees [] tree ≡ old.now.trees tree) where
    abbrev passes : Row → Bool
    passes r = list_all (holds (params ∷ r ∷ [])) tests

    abbrev showing : Row → Row
    showing r = eval_all project (params ∷ r ∷ [])

    asked : (rows : List Row) → Answers (record { schema = schema; trees = old.now.trees })
        (record { lets = []; body = plain_query tree tests project order }) params rows
        → IsPermutation (map showing (filter passes (old.now.trees tree))) rows
    asked rows answers = any_order tree tests project order params old.now.trees own rows answers.answer

  -- a DELETE of the rows that pass a test
  pub deletes : (tests : List Term) (q : Row → Bool) → overlay old.now.trees [] tree ≡ old.now.trees tree
      → ((r : Row) → list_all (holds (params ∷ r ∷ [])) tests ≡ q (drop 1 r))
      → Writes old new None (Delete k (record { lets = []; body = plain_query tree tests (col 1 0 ∷ []) [] })) text params count
      → HoldsAllRows schema (with_rows k (filter (λ v. not (q v)) (rows_at k all)) all) new.now
  deletes tests q own means w =
      let command = Delete k (record { lets = []; body = plain_query tree tests (col 1 0 ∷ []) [] }) in
      let db = old.now.trees in
      let does = subst (λ s. Does old.step_limit (mode_of old) params (record old.now { schema = s }) text None command (Ok (w.tally, new.now))) h.schema_is
      w.changed in
      let on = subst (λ o. AtPlace (λ t. OnRows (record { limit = old.step_limit; keys = Enforced; schema = schema; table = t; params = params })
      (mode_of old) None command db) o (Ok (w.tally, new.now))) at does in
      let done = went on in
      let now = ap (λ (p : Tally × Database). p.1) (same_value (went (went done.2).2).2) in
      let found = went done.1 in
      let next = went found.2 in
      let trees : done.0.trees ≡ next.0 = ap (λ (it : Written). it.trees) (same_value next.2) in
      let edit : Edit = edit_of db table (ids_of found.0) Given 0 [] in
      let applied = one_step schema Enforced db next.0 edit (free (taken_by db edit) edit.news) next.1 in
      let p = passes tests (col 1 0 ∷ []) [] own in
      let left = left_found p (λ r. rowid r ∷ []) (λ r. refl) (db tree) found.0 (asked tests (col 1 0 ∷ []) [] own found.0 found.1) there.0 in
      let rows : next.0 tree ≡ filter (λ r. not (p r)) (db tree) = applied.rows ∙ left in
      let same : filter (λ r. not (p r)) (db tree) ≡ filter (λ r. not (q (drop 1 r))) (db tree) = filter_same _ _ (λ r. ap not (means r)) (db tree) in
      changed next.0 edit _ (now ∙ ap (λ (t : Trees). record { schema = schema; trees = t }) trees) refl applied
      (subst (IsShaped shape.Table) (sym rows) (IsShaped-filter shape.Table _ (db tree) there.0))
      (ap (map (drop 1)) (rows ∙ same) ∙ sym (filter-map (λ v. not (q v)) (drop 1) (db tree)) ∙ ap (filter (λ v. not (q v))) there.1)

  -- the row with its own rowid and new columns
  abbrev renewed : (Row → Row) → Row → Row
  renewed f r = rowid r ∷ cast_all columns (f (drop 1 r))

  renewed_on : (f : Row → Row) (rows : List Row) → AllByRecursion (λ r. IsTrue (is_int (rowid r))) rows
      → map (λ r. cast Integer (rowid r) ∷ cast_all columns (f (drop 1 r))) rows ≡ map (renewed f) rows
  renewed_on f rows keyed = mapped_on _ (renewed f) rows (Rattle.sqlite_keyed.proofs.ListLemmas.all_weaker _ _
      (λ r int. ap (λ v. v ∷ cast_all columns (f (drop 1 r))) (ap (cast Integer) (int_is (rowid r) int) ∙ cast_int _ ∙ sym (int_is (rowid r) int))) rows keyed)

  dropped_in_place : (p : Row → Bool) (q : Row → Bool) (f : Row → Row) → ((r : Row) → p r ≡ q (drop 1 r)) → (r : Row)
      → drop 1 (in_place p (renewed f) r) ≡ (if q (drop 1 r) then cast_all columns (f (drop 1 r)) else drop 1 r)
  dropped_in_place p q f means r =
      elim (p r) as (λ b. b ≡ q (drop 1 r) → drop 1 (if b then renewed f r else r) ≡ (if q (drop 1 r) then cast_all columns (f (drop 1 r)) else drop 1 r))
      [ true ↦ (λ e. rw (← e)) | false ↦ (λ e. rw (← e)) ] (means r)

  -- an UPDATE of the rows that pass a test
  pub updates : (tests news : List Term) (q : Row → Bool) (f : Row → Row) → overlay old.now.trees [] tree ≡ old.now.trees tree
      → ((r : Row) → list_all (holds (params ∷ r ∷ [])) tests ≡ q (drop 1 r))
      → ((r : Row) → eval_all news (params ∷ r ∷ []) ≡ f (drop 1 r))
      → Writes old new None (Update k (record { lets = []; body = plain_query tree tests (col 1 0 ∷ col 1 0 ∷ news) [] })) text params count
      → HoldsAllRows schema (with_rows k (map (λ v. if q v then cast_all columns (f v) else v) (rows_at k all)) all) new.now
  updates tests news q f own means shows w =
      let project = col 1 0 ∷ col 1 0 ∷ news in
      let command = Update k (record { lets = []; body = plain_query tree tests project [] }) in
      let db = old.now.trees in
      let does = subst (λ s. Does old.step_limit (mode_of old) params (record old.now { schema = s }) text None command (Ok (w.tally, new.now))) h.schema_is
      w.changed in
      let on = subst (λ o. AtPlace (λ t. OnRows (record { limit = old.step_limit; keys = Enforced; schema = schema; table = t; params = params })
      (mode_of old) None command db) o (Ok (w.tally, new.now))) at does in
      let done = went on in
      let now = ap (λ (p : Tally × Database). p.1) (same_value (went (went done.2).2).2) in
      let found = went done.1 in
      let next = went found.2 in
      let trees : done.0.trees ≡ next.0 = ap (λ (it : Written). it.trees) (same_value next.2) in
      let edit : Edit = edit_of db table (ids_of found.0) Given 1 found.0 in
      let applied = one_step schema Enforced db next.0 edit (free (taken_by db edit) edit.news) next.1 in
      let p = passes tests project [] own in
      let seen = asked tests project [] own found.0 found.1 in
      let left = left_found p (showing tests project [] own) (λ r. refl) (db tree) found.0 seen there.0 in
      let passing = filter p (db tree) in
      let news_are : edit.news ≡ map (λ s. cast_row table (drop 1 s)) found.0 = given _ _ in
      let shown_as : map (λ s. cast_row table (drop 1 s)) (map (showing tests project [] own) passing) ≡ map (renewed f) passing =
      map-map _ _ passing ∙ Rattle.sqlite_keyed.proofs.ListLemmas.map_same _ _ (λ r. ap (λ vs. cast Integer (rowid r) ∷ cast_all columns vs) (shows r)) passing
      ∙ renewed_on f passing (all-filter _ p (db tree) there.0.1) in
      let put : IsPermutation (map (renewed f) passing) edit.news =
      IsPermutation-trans _ _ _ (IsPermutation-same _ _ (sym shown_as))
      (IsPermutation-trans _ _ _ (IsPermutation-map _ _ _ seen) (IsPermutation-same _ _ (sym news_are))) in
      let over = replaced_is p (renewed f) (λ r. refl) (db tree) (without_all (db tree) (ids_of found.0)) edit.news there.0 left put applied.keyed
      applied.fresh in
      let rows : next.0 tree ≡ map (in_place p (renewed f)) (db tree) = applied.rows ∙ over in
      let still = replaced_shaped p (renewed f) (λ r. refl) (db tree) (without_all (db tree) (ids_of found.0)) edit.news there.0 left put applied.keyed
      applied.fresh in
      let named : map (drop 1) (map (in_place p (renewed f)) (db tree)) ≡ map (λ v. if q v then cast_all columns (f v) else v) (map (drop 1) (db tree)) =
      map-map _ _ (db tree) ∙ Rattle.sqlite_keyed.proofs.ListLemmas.map_same _ _ (dropped_in_place p q f means) (db tree) ∙ sym (map-map _ _ (db tree)) in
      changed next.0 edit _ (now ∙ ap (λ (t : Trees). record { schema = schema; trees = t }) trees) refl applied (subst (IsShaped shape.Table) (sym rows) still)
      (ap (map (drop 1)) rows ∙ named ∙ ap (map (λ v. if q v then cast_all columns (f v) else v)) there.1)

  -- the number of rows that an UPDATE changes
  pub updates_counted : (tests news : List Term) (q : Row → Bool) → overlay old.now.trees [] tree ≡ old.now.trees tree
      → ((r : Row) → list_all (holds (params ∷ r ∷ [])) tests ≡ q (drop 1 r))
      → Writes old new None (Update k (record { lets = []; body = plain_query tree tests (col 1 0 ∷ col 1 0 ∷ news) [] })) text params count
      → count ≡ length (filter q (rows_at k all))
  updates_counted tests news q own means w =
      let project = col 1 0 ∷ col 1 0 ∷ news in
      let command = Update k (record { lets = []; body = plain_query tree tests project [] }) in
      let db = old.now.trees in
      let does = subst (λ s. Does old.step_limit (mode_of old) params (record old.now { schema = s }) text None command (Ok (w.tally, new.now))) h.schema_is
      w.changed in
      let on = subst (λ o. AtPlace (λ t. OnRows (record { limit = old.step_limit; keys = Enforced; schema = schema; table = t; params = params })
      (mode_of old) None command db) o (Ok (w.tally, new.now))) at does in
      let done = went on in
      let found = went done.1 in
      let next = went found.2 in
      let edit : Edit = edit_of db table (ids_of found.0) Given 1 found.0 in
      let noted = ap (λ (p : Tally × Database). unwrap_or p.0.rows 0) (same_value (went (went done.2).2).2) in
      let written : done.0.rows ≡ edit.news = ap (λ (it : Written). it.rows) (same_value next.2) in
      let news_are : edit.news ≡ map (λ s. cast_row table (drop 1 s)) found.0 = given _ _ in
      let p = passes tests project [] own in
      let seen = asked tests project [] own found.0 found.1 in
      let same : filter p (db tree) ≡ filter (λ r. q (drop 1 r)) (db tree) = filter_same _ _ means (db tree) in
      w.counted ∙ noted ∙ ap length (written ∙ news_are) ∙ length-map found.0 _ ∙ length_permutation _ _ seen ∙ length-map (filter p (db tree)) _
      ∙ ap length same ∙ sym (length-map (filter (λ r. q (drop 1 r)) (db tree)) (drop 1)) ∙ ap length (sym (filter-map q (drop 1) (db tree)))
      ∙ ap (λ rs. length (filter q rs)) there.1

-- a SELECT of the rows that pass a test: each is shown, in an order that ORDER BY allows
pub selects : (schema : Schema) (k tree : ℕ) → is_lone tree k schema.tables ≡ true → (db : Database) (all : List (List Row)) (params : Row)
    → HasAllRows schema all db
    → (tests project : List Term) (order : List (Term × Key)) (q : Row → Bool) (f g : Row → Row) (names : List (List ℕ)) → overlay db.trees [] tree
    ≡ db.trees tree
    → ((r : Row) → list_all (holds (params ∷ r ∷ [])) tests ≡ q (drop 1 r)) → ((r : Row) → eval_all project (params ∷ r ∷ []) ≡ f (drop 1 r))
    → ((r : Row) → eval_all (map (λ k. k.0) order) (params ∷ r ∷ []) ≡ g (drop 1 r))
    → (rows : List Row)
    → Reads (Select (record { lets = []; body = plain_query tree tests project order }) names) db params rows
    → (outs : List Output) × IsPermutation (map (λ v. (g v, f v)) (filter q (rows_at k all))) outs
    × IsSorted (on (λ (o : Output). o.0) (key_cmp 0 (map (λ k. k.1) order))) outs × (rows ≡ map (λ (o : Output). o.1) outs)
selects schema k tree alone db all params h tests project order q f g names own means shows orders rows reads =
    let found = outputs tree tests project order params db.trees own rows reads.answer in
    let there = shown_there tree db.trees k schema.tables all alone h.rows_are in
    let passing : filter q (rows_at k all) ≡ map (drop 1) (filter (λ r. list_all (holds (params ∷ r ∷ [])) tests) (db.trees tree)) =
    ap (filter q) (sym there) ∙ filter-map q (drop 1) (db.trees tree) ∙ ap (map (drop 1)) (sym (filter_same _ _ means (db.trees tree))) in
    let first : map (λ v. (g v, f v)) (filter q (rows_at k all)) ≡ map (λ r. output (plain_query tree tests project order) (params ∷ r ∷ []))
    (filter (λ r. list_all (holds (params ∷ r ∷ [])) tests) (db.trees tree)) =
    ap (map (λ v. (g v, f v))) passing ∙ map-map (λ v. (g v, f v)) (drop 1) _
    ∙ Rattle.sqlite_keyed.proofs.ListLemmas.map_same _ _ (λ r. λ i. (sym (orders r) i, sym (shows r) i)) _ in
    (found.0, subst (λ l. IsPermutation l found.0) (sym first) found.1, found.2, found.3)

-- a SELECT of the rows that pass a test, in the order of the table
pub reads_in_order : (schema : Schema) (k tree : ℕ) → is_lone tree k schema.tables ≡ true → (db : Database) (all : List (List Row)) (params : Row)
    → HoldsAllRows schema all db
    → (tests project : List Term) (q : Row → Bool) (f : Row → Row) (names : List (List ℕ)) → overlay db.trees [] tree ≡ db.trees tree
    → ((r : Row) → list_all (holds (params ∷ r ∷ [])) tests ≡ q (drop 1 r)) → ((r : Row) → eval_all project (params ∷ r ∷ []) ≡ f (drop 1 r))
    → (rows : List Row)
    → Reads (Select (record { lets = []; body = plain_query tree tests project row_order }) names) db params rows → rows ≡ map f (filter q (rows_at k all))
reads_in_order schema k tree alone db all params h tests project q f names own means shows rows reads =
    let there = rows_there tree db.trees k schema.tables all alone h.rows_are in
    let found = row_order_is tree tests project params db.trees own there.0.0 rows reads.answer in
    let passing : filter q (rows_at k all) ≡ map (drop 1) (filter (λ r. list_all (holds (params ∷ r ∷ [])) tests) (db.trees tree)) =
    ap (filter q) (sym there.1) ∙ filter-map q (drop 1) (db.trees tree) ∙ ap (map (drop 1)) (sym (filter_same _ _ means (db.trees tree))) in
    found ∙ Rattle.sqlite_keyed.proofs.ListLemmas.map_same _ _ shows _ ∙ sym (map-map f (drop 1) _) ∙ ap (map f) (sym passing)

-- a CREATE TABLE
pub creates : (schema : Schema) (table : Table) (old new : State) (all : List (List Row)) (text : List ℕ) (params : Row) (count : ℕ) → table_defined_by text
    ≡ Ok table
    → lacks_sequence (created schema table) ≡ false → HoldsAllRows schema all old.now → Writes old new None CreateTable text params count
    → HoldsAllRows (created schema table) (all ++ [] ∷ []) new.now
creates schema table old new all text params count defined lacks h w =
    let parts = went w.changed in
    let first = went parts.1 in
    let made = first.1 in
    let same : made.table ≡ table = same_value (sym made.defined ∙ defined) in
    let now_schema : first.0.schema ≡ created schema table = made.is ∙ ap (λ s. created s made.table) h.schema_is ∙ ap (created schema) same in
    let plain : lacks_sequence first.0.schema ≡ false = ap lacks_sequence now_schema ∙ lacks in
    let now : new.now ≡ first.0 = ap (λ (p : Tally × Database). p.1) (same_value parts.2) ∙ same_value (rw plain at first.2) in
    let kept = subst (λ (s : Schema). AllByRecursion (λ (u : Table). first.0.trees u.tree ≡ old.now.trees u.tree) s.tables) h.schema_is made.others in
    let empty = subst (λ s. first.0.trees (next_tree s) ≡ []) h.schema_is made.empty in
    subst (HoldsAllRows (created schema table) (all ++ [] ∷ [])) (sym now)
    (record {
      schema_is = now_schema;
      rows_are = with_table old.now.trees first.0.trees schema.tables all
          (record table { tree = next_tree schema }) kept empty h.rows_are;
    })
