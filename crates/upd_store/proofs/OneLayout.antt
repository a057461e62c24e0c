-- The objects that a file lists have one layout, where one of them makes the library's schema.
use Rattle.upd_store.proofs.Common.{◌≡◌, ◌⊎◌, inl, inr, ℕ, ◌%◌, Bool, true, false, List, [], ◌∷◌, length, map, filter, take, codes, ◌++◌, Some, IsTrue, refl}
use Rattle.upd_store.proofs.Common.{sym, ap, ap₂, subst, ◌∙◌, arith, eq-eqb, if◌then◌else◌, list_all, Null, Text, Row, Schema, Lists, joined, unrooted}
use Rattle.upd_store.proofs.Common.{library_schema}
use Rattle.std.proofs.Common.{◌+◌, ◌*◌, ◌<◌, pos, get_or, Option, None, MatchBool, get_or-take, eqb-true, true≢false, ◌==◌}
use Rattle.std.proofs.lemmas.Bool.{and_parts, cases_Bool}
use Rattle.sqlite_value.specs.declared.value.Value.{Value}
use Rattle.sqlite_value.specs.declared.value.Value.TheVariants.{Int, Real, Blob}
use Rattle.sqlite_value.specs.Order.{bytes, column}
use Rattle.sqlite_trees.specs.Objects.{number_in}
use Rattle.sqlite_trees.specs.declared.store.Shape.{Shape}
use Rattle.sqlite_schema.specs.Names.{same_name}
use Rattle.sqlite_schema.specs.Rules.{table_reals, index_reals}
use Rattle.sqlite_schema.specs.declared.schema.Table.{Table}
use Rattle.sqlite_schema.specs.declared.schema.Index.{Index}
use Rattle.sqlite_schema.specs.declared.schema.View.{View}
use Rattle.sqlite_resolve.specs.Compile.{defined_is_read}
use Rattle.sqlite_rules.specs.Lists.{Has}
use Rattle.sqlite_rules.proofs.ListLemmas.{all_has, has_filtered, has_kept, test_has}
use Rattle.sqlite_catalog.specs.Listing.{IsAside, IsDefined, IsIndexRow, IsOwned, IsReadable, IsTableRow, IsViewRow, ReadsTable, cut, is_index_row}
use Rattle.sqlite_catalog.specs.Listing.{is_table_row, is_unread, is_view_row, unordered}
use Rattle.sqlite_catalog.specs.Reading.{AreRead}
use Rattle.sqlite_catalog.proofs.LayoutLemmas.{row_kind, zipped_left, zipped_right}
use Rattle.sqlite_catalog.proofs.ReadLemmas.{read_once, reads, table_once}
use Rattle.sqlite_catalog.proofs.StepLemmas.{same_itself}

-- ---- rows with the same first columns

abbrev Alike : Row → Row → Type 0
Alike a b = take 5 a ≡ take 5 b

alike_at : (a b : Row) → Alike a b → (k : ℕ) → k < 5 → column a k ≡ column b k
alike_at a b same k low = sym (get_or-take 5 a k Null low) ∙ ap (λ (r : Row). column r k) same ∙ get_or-take 5 b k Null low

mate : (xs ys : List Row) (y : Row) → map (take 5) xs ≡ map (take 5) ys → Has ys y → (x : Row) × Has xs x × Alike x y
mate xs [] y same h = absurd h
mate [] (z ∷ ys) y same h = absurd (let no = same in cc)
mate (x ∷ xs) (z ∷ ys) y same (inl is) = let first : Alike x z = cc in (x, inl refl, first ∙ ap (take 5) (sym is))
mate (x ∷ xs) (z ∷ ys) y same (inr h) = let rest : map (take 5) xs ≡ map (take 5) ys = cc in let m = mate xs ys y rest h in (m.0, inr m.1, m.2)

mapped : (g : Row → Row) (xs ys : List Row) → map (take 5) xs ≡ map (take 5) ys
    → ((x y : Row) → Has xs x → Has ys y → Alike x y → g x ≡ g y) → map g xs ≡ map g ys
mapped g [] [] same each = refl
mapped g [] (y ∷ ys) same each = absurd (let no = same in cc)
mapped g (x ∷ xs) [] same each = absurd (let no = same in cc)
mapped g (x ∷ xs) (y ∷ ys) same each =
    let first : Alike x y = cc in
    let rest : map (take 5) xs ≡ map (take 5) ys = cc in
    ap₂ (λ (r : Row) rs. r ∷ rs) (each x y (inl refl) (inl refl) first) (mapped g xs ys rest (λ a b h k. each a b (inr h) (inr k)))

-- ---- what a row describes: the second letter of its type tells tables, indexes, views and triggers apart

abbrev letter : Row → ℕ
letter row = get_or (bytes (column row 1)) 1 0

lettered : (row : Row) {kind : List ℕ} → column row 1 ≡ Text kind → letter row ≡ get_or kind 1 0
lettered row is = ap (λ z. get_or (bytes z) 1 0) is

same_letter : (a b : Row) → Alike a b → letter a ≡ letter b
same_letter a b same = ap (λ z. get_or (bytes z) 1 0) (alike_at a b same 1 (omega arith))

second : {a b : List ℕ} → a ≡ b → get_or a 1 0 ≡ get_or b 1 0
second is = ap (λ l. get_or l 1 0) is

defined_is_known : (table : Table) (index : Index) (sql : Value) → IsDefined table index sql → is_unread sql ≡ false
defined_is_known table index Null h = refl
defined_is_known table index (Int n) h = refl
defined_is_known table index (Real x) h = refl
defined_is_known table index (Text sql) h = rw (defined_is_read table sql h.0 h.1) refl
defined_is_known table index (Blob b) h = refl

reads_as : (a b : Row) (t : Table) → Alike a b → IsTableRow a t → ReadsTable b t
reads_as a b t same h = record {
  names = record {
    low = h.described.low;
    id = sym (alike_at a b same 0 (omega arith)) ∙ h.described.id;
    kind_is = sym (alike_at a b same 1 (omega arith)) ∙ h.described.kind_is;
    name_is = sym (alike_at a b same 2 (omega arith)) ∙ h.described.name_is;
    owner_is = sym (alike_at a b same 3 (omega arith)) ∙ h.described.owner_is;
  };
  sql = h.sql;
  sql_is = sym (alike_at a b same 4 (omega arith)) ∙ h.sql_is;
  defined = h.defined;
  formed = h.formed;
  utf8 = h.utf8;
}

-- a row of the library's list is a table's or an index's
abbrev Known : Row → Type 0
Known row = ((t : Table) × Has library_schema.tables t × IsTableRow row t)
    ⊎ ((i : Index) × Has library_schema.indexes i × IsIndexRow library_schema.tables row i)

known : (rows : List Row) → Lists rows library_schema → (row : Row) → Has rows row → Known row
known rows lists row h = elim (row_kind row) [
  | inl table ↦ inl (zipped_right IsTableRow _ library_schema.tables row lists.listed.tables (has_kept is_table_row rows row h table))
  | inr (inl index) ↦ inr (zipped_right (IsIndexRow library_schema.tables) _ library_schema.indexes row lists.listed.indexes
      (has_kept is_index_row rows row h index))
  | inr (inr view) ↦ absurd (zipped_right IsViewRow _ library_schema.views row lists.listed.views (has_kept is_view_row rows row h view)).1
]

known_letter : (row : Row) → Known row → (letter row ≡ 97) ⊎ ((letter row ≡ 110) × (is_unread (column row 4) ≡ false))
known_letter row (inl t) = inl (lettered row t.2.described.kind_is)
known_letter row (inr i) = inr (lettered row i.2.described.kind_is, defined_is_known i.2.table i.0 (column row 4) i.2.defined)

-- ---- the same objects under two layouts

module _ (A B : List Row) (schema : Schema) (ours : Lists A library_schema) (theirs : Lists B schema) (alike : map (take 5) A ≡ map (take 5) B) where
  unbound : (w : View) → Has schema.views w → w.binds ≡ false
  unbound w h =
      let v = zipped_left IsViewRow _ schema.views w theirs.listed.views h in
      let m = mate A B v.0 alike (has_filtered is_view_row B v.0 v.1).0 in
      go v.0 m.0 m.2 (known_letter m.0 (known A ours m.0 m.1)) v.2.kind v.2.owner v.2.code w.foreign v.2.aside
      (same_letter m.0 v.0 m.2 ∙ lettered v.0 v.2.described.kind_is)
    where
      go : (b a : Row) → Alike a b → (letter a ≡ 97) ⊎ ((letter a ≡ 110) × (is_unread (column a 4) ≡ false)) → (kind owner : List ℕ) (code : ℕ)
          (o : Option (List ℕ)) → IsAside b w kind owner code o → letter a ≡ get_or kind 1 0 → w.binds ≡ false
      go b a same k kind owner code None aside is = aside.6
      go b a same k kind owner code (Some x) aside is = elim aside.2 [
        | inl table ↦ table.2
        | inr (inl index) ↦ elim k [
          | inl a' ↦ absurd (omega (arith, a', is, second index.0))
          | inr n ↦ index.2 ∙ sym (ap is_unread (alike_at a b same 4 (omega arith))) ∙ n.1
        ]
        | inr (inr trigger) ↦ elim k [
          | inl a' ↦ absurd (omega (arith, a', is, second trigger.0))
          | inr n ↦ absurd (omega (arith, n.0, is, second trigger.0))
        ]
      ]

  -- a row that the library's schema reads as a table is no foreign one
  not_foreign : (b : Row) (t : Table) (w : View) → ReadsTable b t → Has schema.views w → IsViewRow b w → ⊥
  not_foreign b t w reads_it h v =
      go v.kind v.owner v.code w.foreign refl v.aside (all_has (IsOwned schema) schema.views w theirs.listed.owned h)
      (sym (lettered b v.described.kind_is) ∙ lettered b reads_it.names.kind_is)
    where
      go : (kind owner : List ℕ) (code : ℕ) (o : Option (List ℕ)) → w.foreign ≡ o → IsAside b w kind owner code o → IsOwned schema w
          → get_or kind 1 0 ≡ 97 → ⊥
      go kind owner code None is aside owned word = omega (arith, word, second aside.0)
      go kind owner code (Some x) is aside owned word = elim aside.2 [
        | inl table ↦ elim (cases_Bool w.is_bound) [
          | inl bound ↦ let it = (rw is at owned).2 bound in true≢false (sym (and_parts it.0.binds _ it.2).0 ∙ unbound it.0 it.1)
          | inr free ↦ subst (λ b'. MatchBool b' (IsReadable b) (¬ IsReadable b)) free table.3 (t, reads_it)
        ]
        | inr (inl index) ↦ omega (arith, word, second index.0)
        | inr (inr trigger) ↦ omega (arith, word, second trigger.0)
      ]

  table_pair : (a b : Row) (t : Table) → Has B b → Alike a b → IsTableRow a t → (u : Table) × Has schema.tables u × IsTableRow b u × (u ≡ t)
  table_pair a b t h same is = elim (row_kind b) [
    | inl table ↦ let r = zipped_right IsTableRow _ schema.tables b theirs.listed.tables (has_kept is_table_row B b h table) in
        (r.0, r.1, r.2, table_once b r.0 t (reads_as b b r.0 refl r.2) (reads_as a b t same is))
    | inr (inl index) ↦ let r = zipped_right (IsIndexRow schema.tables) _ schema.indexes b theirs.listed.indexes (has_kept is_index_row B b h index) in
        absurd (omega (arith, same_letter a b same, lettered a is.described.kind_is, lettered b r.2.described.kind_is))
    | inr (inr view) ↦ let r = zipped_right IsViewRow _ schema.views b theirs.listed.views (has_kept is_view_row B b h view) in
        absurd (not_foreign b t r.0 (reads_as a b t same is) r.1 r.2)
  ]

  index_pair : (a b : Row) (i : Index) → Has B b → Alike a b → IsIndexRow library_schema.tables a i → unordered (number_in (column b 5)) ≡ 2
  index_pair a b i h same is = elim (row_kind b) [
    | inl table ↦ let r = zipped_right IsTableRow _ schema.tables b theirs.listed.tables (has_kept is_table_row B b h table) in
        absurd (omega (arith, word, lettered b r.2.described.kind_is))
    | inr (inl index) ↦ let r = zipped_right (IsIndexRow schema.tables) _ schema.indexes b theirs.listed.indexes (has_kept is_index_row B b h index) in
        ap unordered r.2.described.shape_is ∙ plain_code r.0.order.digits
    | inr (inr view) ↦ let r = zipped_right IsViewRow _ schema.views b theirs.listed.views (has_kept is_view_row B b h view) in
        absurd (go r.0 r.2.kind r.2.owner r.2.code r.0.foreign refl r.2.aside (all_has (IsOwned schema) schema.views r.0 theirs.listed.owned r.1)
        (sym (lettered b r.2.described.kind_is) ∙ word) (sym r.2.described.owner_is ∙ sym (alike_at a b same 3 (omega arith)) ∙ is.described.owner_is))
  ]
    where
      word : letter b ≡ 110
      word = sym (same_letter a b same) ∙ lettered a is.described.kind_is

      plain_code : (n : ℕ) → unordered (2 + 8 * n) ≡ 2
      plain_code n = rw (eq-eqb ((2 + 8 * n) % 8) 2 (omega arith)) refl

      owner : (u : Table) × Has schema.tables u × (u ≡ is.table)
      owner =
          let r = zipped_left IsTableRow _ library_schema.tables is.table ours.listed.tables is.listed in
          let m = mate B A r.0 (sym alike) (has_filtered is_table_row A r.0 r.1).0 in
          let p = table_pair r.0 m.0 is.table m.1 (sym m.2) r.2 in
          (p.0, p.1, p.3)

      go : (w : View) (kind of : List ℕ) (code : ℕ) (o : Option (List ℕ)) → w.foreign ≡ o → IsAside b w kind of code o → IsOwned schema w
          → get_or kind 1 0 ≡ 110 → Text of ≡ Text is.table.name → ⊥
      go w kind of code None is' aside owned letters named = omega (arith, letters, second aside.0)
      go w kind of code (Some x) is' aside owned letters named =
          let same_of : of ≡ is.table.name = cc in
          let x_is : owner.0.name ≡ x = ap (λ (t : Table). t.name) owner.2 ∙ sym same_of ∙ aside.0 in
          true≢false (sym (same_itself x) ∙ ap (λ n. same_name n x) (sym x_is)
          ∙ all_has (λ (t : Table). same_name t.name x ≡ false) schema.tables owner.0 (rw is' at owned).0 owner.1)

  cut_pair : (a b : Row) → Has A a → Has B b → Alike a b → cut a ≡ cut b
  cut_pair a b h k same =
      let code : unordered (number_in (column a 5)) ≡ unordered (number_in (column b 5)) = elim (known A ours a h) [
        | inl t ↦ ap unordered (t.2.described.shape_is ∙ sym (table_pair a b t.0 k same t.2).2.described.shape_is)
        | inr i ↦ ap unordered i.2.described.shape_is ∙ own_code i.0.order.digits ∙ sym (index_pair a b i.0 k same i.2)
      ] in
      λ j. alike_at a b same 0 (omega arith) j ∷ alike_at a b same 1 (omega arith) j ∷ alike_at a b same 2 (omega arith) j
      ∷ alike_at a b same 3 (omega arith) j ∷ alike_at a b same 4 (omega arith) j ∷ Int (pos (code j)) ∷ []
    where
      own_code : (n : ℕ) → unordered (2 + 8 * n) ≡ 2
      own_code n = rw (eq-eqb ((2 + 8 * n) % 8) 2 (omega arith)) refl

  pub same_schema : schema ≡ library_schema
  same_schema =
      let r = reads B schema theirs in
      read_once (map cut B) schema library_schema r.tables r.indexes r.views
      (subst (λ rows. AreRead rows library_schema) (mapped cut A B alike cut_pair) (reads A library_schema ours))

-- ---- all tables and indexes of the library are plain

abbrev IsPlain : Row → Type 0
IsPlain row = (number_in (column row 5) ≡ (if letter row == 97 then 1 else 2)) × (number_in (column row 6) ≡ 0)

tables_plain : list_all (λ (t : Table). table_reals t == 0) library_schema.tables ≡ true
tables_plain = refl

indexes_plain : list_all (λ (i : Index). (i.order.digits + index_reals 0 i.columns) == 0) library_schema.indexes ≡ true
indexes_plain = refl

no_reals : (t : Table) → Has library_schema.tables t → table_reals t ≡ 0
no_reals t h = eqb-true _ _ (test_has (λ (u : Table). table_reals u == 0) library_schema.tables t tables_plain h)

plain_row : (row : Row) → Known row → IsPlain row
plain_row row (inl t) = rw (lettered row t.2.described.kind_is) (t.2.described.shape_is, t.2.described.reals_are ∙ no_reals t.0 t.1)
plain_row row (inr i) =
    let plain = eqb-true _ _ (test_has (λ (j : Index). (j.order.digits + index_reals 0 j.columns) == 0) library_schema.indexes i.0 indexes_plain i.1) in
    let order : i.0.order.digits ≡ 0 = omega (arith, plain) in
    let reals : index_reals 0 i.0.columns ≡ 0 = omega (arith, plain) in
    rw (lettered row i.2.described.kind_is) (
      i.2.described.shape_is ∙ ap (λ n. 2 + 8 * n) order,
      i.2.described.reals_are ∙ ap (λ n. index_reals n i.0.columns) (no_reals i.2.table i.2.listed) ∙ reals,
    )

abbrev rebuilt : Row → Row
rebuilt row = column row 0 ∷ column row 1 ∷ column row 2 ∷ column row 3 ∷ column row 4 ∷ Int (pos (number_in (column row 5)))
    ∷ Int (pos (number_in (column row 6))) ∷ []

rebuilt_joined : (rows : List Row) (layouts : List (Shape × ℕ)) → map rebuilt (joined (map unrooted rows) layouts) ≡ joined (map unrooted rows) layouts
rebuilt_joined [] layouts = refl
rebuilt_joined (r ∷ rows) [] = refl
rebuilt_joined (r ∷ rows) (l ∷ layouts) = ap (λ rs. joined (unrooted r ∷ []) (l ∷ []) ++ rs) (rebuilt_joined rows layouts)

front_joined : (rows : List Row) (layouts : List (Shape × ℕ)) → length layouts ≡ length rows
    → map (take 5) (joined (map unrooted rows) layouts) ≡ map unrooted rows
front_joined [] layouts each = refl
front_joined (r ∷ rows) [] each = absurd (omega arith)
front_joined (r ∷ rows) (l ∷ layouts) each = ap (λ rs. unrooted r ∷ rs) (front_joined rows layouts (omega arith))

-- the objects of these rows under two layouts, of which one makes the library's schema, and the other any
pub one_layout : (rows : List Row) (a b : List (Shape × ℕ)) (schema : Schema) → length a ≡ length rows → length b ≡ length rows
    → Lists (joined (map unrooted rows) a) library_schema → Lists (joined (map unrooted rows) b) schema
    → joined (map unrooted rows) a ≡ joined (map unrooted rows) b
one_layout rows a b schema first other ours theirs =
    let A = joined (map unrooted rows) a in
    let B = joined (map unrooted rows) b in
    let alike : map (take 5) A ≡ map (take 5) B = front_joined rows a first ∙ sym (front_joined rows b other) in
    let lists : Lists B library_schema = subst (Lists B) (same_schema A B schema ours theirs alike) theirs in
    let each = λ (x y : Row) (h : Has A x) (k : Has B y) (same : Alike x y).
    let p = plain_row x (known A ours x h) in
    let q = plain_row y (known B lists y k) in
    let code : number_in (column x 5) ≡ number_in (column y 5) =
    p.0 ∙ ap (λ n. if n == 97 then 1 else 2) (same_letter x y same) ∙ sym q.0 in
    let reals : number_in (column x 6) ≡ number_in (column y 6) = p.1 ∙ sym q.1 in
    let is : rebuilt x ≡ rebuilt y =
    λ j. alike_at x y same 0 (omega arith) j ∷ alike_at x y same 1 (omega arith) j ∷ alike_at x y same 2 (omega arith) j
    ∷ alike_at x y same 3 (omega arith) j ∷ alike_at x y same 4 (omega arith) j ∷ Int (pos (code j)) ∷ Int (pos (reals j)) ∷ [] in
    is in
    sym (rebuilt_joined rows a) ∙ mapped rebuilt A B alike each ∙ rebuilt_joined rows b
