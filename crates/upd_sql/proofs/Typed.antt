-- The same statements on lists of records, each of which is stored as a row.
use Rattle.upd_sql.proofs.Common.{OnOk, IsErr, arith, ◌≡◌, ℕ, ◌/◌, ◌-◌, ◌^◌, nat_le, None, Bool, not, if◌then◌else◌, List, [], ◌∷◌, ◌++◌, map, length, filter}
use Rattle.upd_sql.proofs.Common.{slice_get, Some, Ok, refl, sym, ap, subst, ◌∙◌, IfOk, IsTrue, true, false, Result, Err, AllByRecursion, list_all}
use Rattle.upd_sql.proofs.Common.{length-map, map-append, Null, Row, Term, eval_all, holds, cast_all, map-map, all_weaker, stored}
use Rattle.upd_sql.proofs.Common.{filter-map, filter_same, Error, value_rows, State, Executes, Shown, Survives, runs_as}
use Rattle.upd_sql.proofs.Common.{reads_as, Rows, row_order, HoldsAllRows, rows_at, Ran, Makes, is_lone, inserts, library_schema, HoldsTables}
use Rattle.upd_sql.proofs.Common.{AnyTables, makes_then, makes_as}
use Rattle.std.proofs.Common.{inl, unwrap_or}
use Rattle.sqlite_trees.specs.Tree.{Trees}
use Rattle.sqlite_sql.specs.Program.{overlay}
use Rattle.sqlite_schema.specs.declared.schema.Column.{Column}
use Rattle.sqlite_schema.specs.declared.schema.Keys.TheVariants.{Enforced}
use Rattle.sqlite_rules.specs.Action.{works}
use Rattle.upd_sqlite.specs.Keyed.{keyed}
use Rattle.upd_sqlite.specs.Stored.{with_rows}
use Rattle.upd_sqlite.proofs.Shapes.{deletes, updates, updates_counted, reads_in_order}
use Rattle.upd_sqlite.proofs.Answers.{shown_was_open}
use Rattle.upd_sql.proofs.ReadTexts.{Reads}
use Rattle.upd_sql.proofs.WriteTexts.{IsDelete, IsInsert, IsUpdate}
use Rattle.upd_sql.proofs.Conditions.{passes}
use Rattle.upd_sql.proofs.Bare.{is_bare, bare_tests, bare_values}

pub own : (db : Trees) (t : ℕ) → overlay db [] t ≡ db t
own db t = elim (nat_le (2 ^ 31) t) as (λ b. unwrap_or (if b then slice_get [] (t - 2 ^ 31) else None) (db t) ≡ db t) [ true ↦ refl | false ↦ refl ]

pub mapped_each : {A B : Type 0} (f g : A → B) (xs : List A) → AllByRecursion (λ x. f x ≡ g x) xs → map f xs ≡ map g xs
mapped_each f g [] h = refl
mapped_each f g (x ∷ xs) h = ap (λ y. y ∷ map f xs) h.0 ∙ ap (λ l. g x ∷ l) (mapped_each f g xs h.1)

-- ---- from a text that ran to what it makes of the tables

pub makes_from : {X : Type 0} (Fits : Rows → Type 0) (change : Rows → Rows) (sql : List ℕ) (params : Row) (old new : State) (r : Result X Error)
    → Ran sql params old new r
    → ((count : ℕ) → Executes sql params old new (Ok count) → (it : Rows) → Fits it → HoldsTables it old.now → HoldsTables (change it) new.now)
    → Makes HoldsTables Fits change old new r
makes_from Fits change sql params old new (Ok x) ran means =
    record { steps = ran.steps; made = λ clean inside it fits h. let ex = ran.executed clean inside in means ex.0 ex.1 it fits h }
makes_from Fits change sql params old new (Err e) ran means = record { steps = ran.steps; made = λ clean. tt }

-- A table of records: which of the schema's it is, where the rows of the library have its records, and how each is stored.
pub record TableOf (X : Type 0) : Type 0 where
  pub k : ℕ
  pub tree : ℕ
  pub name : List ℕ
  pub columns : List Column
  pub key : List ℕ
  pub row : X → Row
  pub of : Rows → List X
  pub at : slice_get library_schema.tables k ≡ Some (keyed tree name columns key)
  pub alone : is_lone tree k library_schema.tables ≡ true
  pub free : (olds news : List Row) → works library_schema Enforced 0 tree olds news ≡ []
  pub are : (it : Rows) → rows_at k (stored it) ≡ map row (of it)
  pub cast : (x : X) → cast_all columns (row x) ≡ row x

abbrev pub table : {X : Type 0} (k tree : ℕ) (name : List ℕ) (columns : List Column) (key : List ℕ) (row : X → Row) (of : Rows → List X)
    → slice_get library_schema.tables k ≡ Some (keyed tree name columns key) → is_lone tree k library_schema.tables ≡ true
    → ((olds news : List Row) → works library_schema Enforced 0 tree olds news ≡ []) → ((it : Rows) → rows_at k (stored it) ≡ map row (of it))
    → ((x : X) → cast_all columns (row x) ≡ row x) → TableOf X
table k tree name columns key row of at alone free are cast = record {
  k = k;
  tree = tree;
  name = name;
  columns = columns;
  key = key;
  row = row;
  of = of;
  at = at;
  alone = alone;
  free = free;
  are = are;
  cast = cast;
}

module _ {X Y : Type 0} (t : TableOf X) {sql : List ℕ} {params : Row} {old new : State} {r : Result Y Error} {Fits : Rows → Type 0}
    {change : Rows → Rows} (ran : Ran sql params old new r) where
  -- from the rows that a text leaves in its table to what it does to all tables
  made : (rows : Rows → List Row) → ((it : Rows) → with_rows t.k (rows it) (stored it) ≡ stored (change it))
      → ((it : Rows) → Fits it → HoldsTables it old.now → (count : ℕ) → Executes sql params old new (Ok count)
      → HoldsAllRows library_schema (with_rows t.k (rows it) (stored it)) new.now)
      → Makes HoldsTables Fits change old new r
  made rows same does = makes_from Fits change sql params old new r ran
      (λ count ex it fits h. subst (λ all. HoldsAllRows library_schema all new.now) (same it) (does it fits h count ex))

  pub adds : {terms : List Term} {width : ℕ} → IsInsert sql t.k terms width → (x : X)
      → value_rows (params ++ []) width (length terms / width) terms ≡ (Null ∷ t.row x) ∷ []
      → ((it : Rows) → with_rows t.k (map t.row (t.of it ++ x ∷ [])) (stored it) ≡ stored (change it)) → Makes HoldsTables Fits change old new r
  adds {terms} {width} text x source same = made (λ it. map t.row (t.of it ++ x ∷ [])) same (λ it fits h count ex.
      let w = runs_as sql params old new library_schema h.schema_is _ text.is text.plain count ex in
      let rows : rows_at t.k (stored it) ++ cast_all t.columns (t.row x) ∷ [] ≡ map t.row (t.of it ++ x ∷ []) =
      ap (λ v. rows_at t.k (stored it) ++ v ∷ []) (t.cast x) ∙ ap (λ rs. rs ++ t.row x ∷ []) (t.are it) ∙ sym (map-append t.row (t.of it) (x ∷ [])) in
      subst (λ rs. HoldsAllRows library_schema (with_rows t.k rs (stored it)) new.now) rows
      (inserts library_schema t.k t.tree t.name t.columns t.key t.at t.alone t.free old new (stored it) _ params count h terms width (t.row x) source w))

  pub removes : {tests : List Term} → IsDelete sql t.k t.tree tests → list_all is_bare tests ≡ true → (q : X → Bool)
      → ((x : X) → passes params tests (t.row x) ≡ q x)
      → ((it : Rows) → with_rows t.k (map t.row (filter (λ x. not (q x)) (t.of it))) (stored it) ≡ stored (change it))
      → Makes HoldsTables Fits change old new r
  removes {tests} text bare q means same = made (λ it. map t.row (filter (λ x. not (q x)) (t.of it))) same (λ it fits h count ex.
      let w = runs_as sql params old new library_schema h.schema_is _ text.is text.plain count ex in
      let rows : filter (λ v. not (passes params tests v)) (rows_at t.k (stored it)) ≡ map t.row (filter (λ x. not (q x)) (t.of it)) =
      ap (filter (λ v. not (passes params tests v))) (t.are it) ∙ filter-map (λ v. not (passes params tests v)) t.row (t.of it)
      ∙ ap (map t.row) (filter_same _ _ (λ x. ap not (means x)) (t.of it)) in
      subst (λ rs. HoldsAllRows library_schema (with_rows t.k rs (stored it)) new.now) rows
      (deletes library_schema t.k t.tree t.name t.columns t.key t.at t.alone t.free old new (stored it) _ params count h tests (passes params tests)
      (own old.now.trees t.tree) (λ row. bare_tests params row tests bare) w))

  module _ {tests news : List Term} (text : IsUpdate sql t.k t.tree tests news) (bare : list_all is_bare tests ≡ true) (q : X → Bool)
      (means : (x : X) → passes params tests (t.row x) ≡ q x) where
    -- the records that pass the tests become others
    pub changes : list_all is_bare news ≡ true → (alter next : X → X) → ((x : X) → (if q x then next x else x) ≡ alter x)
        → ((it : Rows) → Fits it → AllByRecursion (λ x. IsTrue (q x) → eval_all news (params ∷ (Null ∷ t.row x) ∷ []) ≡ t.row (next x)) (t.of it))
        → ((it : Rows) → with_rows t.k (map t.row (map alter (t.of it))) (stored it) ≡ stored (change it)) → Makes HoldsTables Fits change old new r
    changes bare_news alter next altered becomes same = made (λ it. map t.row (map alter (t.of it))) same (λ it fits h count ex.
        let w = runs_as sql params old new library_schema h.schema_is _ text.is text.plain count ex in
        let f = λ (v : Row). eval_all news (params ∷ (Null ∷ v) ∷ []) in
        let rows : map (λ v. if passes params tests v then cast_all t.columns (f v) else v) (rows_at t.k (stored it)) ≡ map t.row (map alter (t.of it)) =
        ap (map (λ v. if passes params tests v then cast_all t.columns (f v) else v)) (t.are it) ∙ map-map _ t.row (t.of it)
        ∙ mapped_each _ _ (t.of it) (all_weaker _ _ each (t.of it) (becomes it fits)) ∙ sym (map-map t.row alter (t.of it)) in
        subst (λ rs. HoldsAllRows library_schema (with_rows t.k rs (stored it)) new.now) rows
        (updates library_schema t.k t.tree t.name t.columns t.key t.at t.alone t.free old new (stored it) _ params count h tests news
        (passes params tests) f (own old.now.trees t.tree) (λ row. bare_tests params row tests bare) (λ row. bare_values params row news bare_news) w))
      where
        written : (x : X) (b : Bool) → (IsTrue b → eval_all news (params ∷ (Null ∷ t.row x) ∷ []) ≡ t.row (next x))
            → (if b then cast_all t.columns (eval_all news (params ∷ (Null ∷ t.row x) ∷ [])) else t.row x) ≡ t.row (if b then next x else x)
        written x true is = ap (cast_all t.columns) (is refl) ∙ t.cast (next x)
        written x false is = refl

        each : (x : X) → (IsTrue (q x) → eval_all news (params ∷ (Null ∷ t.row x) ∷ []) ≡ t.row (next x))
            → (if passes params tests (t.row x) then cast_all t.columns (eval_all news (params ∷ (Null ∷ t.row x) ∷ [])) else t.row x) ≡ t.row (alter x)
        each x is = ap (λ b. if b then cast_all t.columns (eval_all news (params ∷ (Null ∷ t.row x) ∷ [])) else t.row x) (means x)
            ∙ written x (q x) is ∙ ap t.row (altered x)

-- how many rows a text changes
pub changes_counted : {X : Type 0} (t : TableOf X) {sql : List ℕ} (params : Row) {tests news : List Term} → IsUpdate sql t.k t.tree tests news
    → list_all is_bare tests ≡ true → (q : X → Bool) → ((x : X) → passes params tests (t.row x) ≡ q x)
    → (old new : State) (it : Rows) (count : ℕ) → HoldsTables it old.now → Executes sql params old new (Ok count) → count ≡ length (filter q (t.of it))
changes_counted t {sql} params {tests} {news} text bare q means old new it count h ex =
    let w = runs_as sql params old new library_schema h.schema_is _ text.is text.plain count ex in
    updates_counted library_schema t.k t.tree t.name t.columns t.key t.at t.alone t.free old new (stored it) _ params count h tests news
    (passes params tests) (own old.now.trees t.tree) (λ row. bare_tests params row tests bare) w
    ∙ ap (λ rs. length (filter (passes params tests) rs)) (t.are it)
    ∙ ap length (filter-map (passes params tests) t.row (t.of it) ∙ ap (map t.row) (filter_same _ _ means (t.of it)))
    ∙ length-map (filter q (t.of it)) t.row

-- what a query by rowid shows of the records that pass: their rows, in the order in which they came
pub reads_exactly : (k tree : ℕ) (alone : is_lone tree k library_schema.tables ≡ true) {X : Type 0} (row : X → Row) (all : List (List Row)) (xs : List X)
    (are : rows_at k all ≡ map row xs) (sql : List ℕ) (params : Row) (old new : State) (rows : List Row) (shown : Shown sql params old new rows)
    (h : HoldsAllRows library_schema all old.now) (tests project : List Term) → Reads sql tree tests project row_order
    → list_all is_bare tests ≡ true → list_all is_bare project ≡ true
    → (q : X → Bool) → ((x : X) → list_all (holds (params ∷ (Null ∷ row x) ∷ [])) tests ≡ q x)
    → ((x : X) → eval_all project (params ∷ (Null ∷ row x) ∷ []) ≡ row x)
    → rows ≡ map row (filter q xs)
reads_exactly k tree alone row all xs are sql params old new rows shown h tests project query bare bare_shown q means whole =
    let reads = reads_as sql params old new library_schema h.schema_is _ query.is query.plain query.unlisted rows shown in
    let p = λ (v : Row). list_all (holds (params ∷ (Null ∷ v) ∷ [])) tests in
    let f = λ (v : Row). eval_all project (params ∷ (Null ∷ v) ∷ []) in
    reads_in_order library_schema k tree alone old.now all params h tests project p f query.names (own old.now.trees tree) (λ r. bare_tests params r tests bare)
    (λ r. bare_values params r project bare_shown) rows reads
    ∙ ap (λ rs. map f (filter p rs)) are ∙ ap (map f) (filter-map p row xs ∙ ap (map row) (filter_same _ _ means xs)) ∙ map-map f row _
    ∙ Rattle.sqlite_keyed.proofs.ListLemmas.map_same _ row whole _

-- ---- steps of a transaction

pub survives_itself : (s : State) (P : Trees → Type 0) → Survives s s P
survives_itself s P =
    record { clean = omega arith; shield = λ h. h; counts = omega arith; limit = refl; closes = λ clean o. inl o; crash = λ clean db may. inl may }

-- nothing was run
pub makes_nothing : {X : Type 0} {Fits : Rows → Type 0} {change : Rows → Rows} {s : State} (r : Result X Error) → IsErr r → Makes HoldsTables Fits change s s r
makes_nothing (Ok x) err = absurd (cc)
makes_nothing {X} {Fits} {change} {s} (Err e) err = record {
  steps = record { going = λ clean. tt; kept = λ clean inside. record { was_open = λ o. o; committed = λ o. refl }; survives = survives_itself s _ };
  made = λ clean. tt;
}

-- nothing was run, and nothing was to be done
pub makes_none : {X : Type 0} {Fits : Rows → Type 0} {change : Rows → Rows} (s : State) (x : X) → ((it : Rows) → Fits it → it ≡ change it)
    → Makes {X = X} HoldsTables Fits change s s (Ok x)
makes_none s x same = record {
  steps = record {
    going = λ clean inside. inside;
    kept = λ clean inside. record { was_open = λ o. o; committed = λ o. refl };
    survives = survives_itself s _;
  };
  made = λ clean inside it fits h. subst (λ rows. HoldsTables rows s.now) (same it fits) h;
}

-- two steps, of which the first went well, by other words
pub makes_more : {X Y : Type 0} {F G H : Rows → Type 0} {f g h : Rows → Rows} {a b c : State} {x : X} {r : Result Y Error}
    → ((it : Rows) → H it → F it × G (f it)) → ((it : Rows) → g (f it) ≡ h it)
    → Makes HoldsTables F f a b (Ok x) → Makes HoldsTables G g b c r → Makes HoldsTables H h a c r
makes_more {X} {Y} {F} {G} {H} {f} {g} {h} {a} {b} {c} {x} {r} fits same p q =
    makes_as HoldsTables _ H _ h a c r fits same (makes_then HoldsTables F G f g a b c x r p q)

pub makes_both : {X Y : Type 0} (f g : Rows → Rows) (a b c : State) (x : X) (r : Result Y Error) → Makes HoldsTables AnyTables f a b (Ok x)
    → Makes HoldsTables AnyTables g b c r
    → Makes HoldsTables AnyTables (λ it. g (f it)) a c r
makes_both f g a b c x r p q = makes_more (λ it any. (any, any)) (λ it. refl) p q

-- only an open connection answers
pub was_open_from : {X : Type 0} (items : X → List Row) (sql : List ℕ) (params : Row) (old new : State) (r : Result X Error)
    → IfOk r (λ rows. Shown sql params old new (items rows))
    → OnOk r (IsTrue old.in_transaction → IsTrue old.is_open)
was_open_from items sql params old new (Ok rows) shown = λ inside. shown_was_open sql params old new (items rows) shown
was_open_from items sql params old new (Err e) shown = tt
