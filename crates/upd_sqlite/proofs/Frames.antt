-- A change of one table leaves the rows of the others.
use Rattle.std.proofs.Common.{◌≡◌, ◌≢◌, ℕ, zero, suc, Bool, true, false, not, ◌&&◌, ◌==◌, arith, List, [], ◌∷◌, ◌++◌, map, drop, refl, sym, subst}
use Rattle.std.specs.List.{AllByRecursion, AllZip, list_all}
use Rattle.std.proofs.lemmas.Bool.{and_parts}
use Rattle.std.proofs.lemmas.Bool.Decides.{nat_tests}
use Rattle.sqlite_value.specs.Order.{Row}
use Rattle.sqlite_trees.specs.declared.store.Shape.TheVariants as shape
use Rattle.sqlite_trees.specs.Tree.{Trees}
use Rattle.sqlite_trees.specs.View.{IsShaped}
use Rattle.sqlite_schema.specs.declared.schema.Table.{Table}
use Rattle.sqlite_schema.specs.declared.schema.Schema.{Schema}
use Rattle.sqlite.specs.Effect.{Database}
use Rattle.upd_sqlite.specs.Rising.{TablesRise}
use Rattle.upd_sqlite.specs.Stored.{HasRows, HoldsRows, HasAllRows, HoldsAllRows, rows_at, with_rows}

-- no table but the one at a place is in this tree
abbrev pub is_lone : ℕ → ℕ → List Table → Bool
is_lone tree k [] = false
is_lone tree zero (t ∷ tables) = (t.tree == tree) && list_all (λ (u : Table). not (u.tree == tree)) tables
is_lone tree (suc k) (t ∷ tables) = not (t.tree == tree) && is_lone tree k tables

other_tree : (a b : ℕ) → not (a == b) ≡ true → a ≢ b
other_tree a b h e = grind (arith, nat_tests)

same_tree : (a b : ℕ) → (a == b) ≡ true → a ≡ b
same_tree a b h = grind (arith, nat_tests)

module _ (tree : ℕ) (old new : Trees) where
  abbrev Spares : List Table → Type 0
  Spares = AllByRecursion (λ t. t.tree ≢ tree → new t.tree ≡ old t.tree)

  kept_rows : (t : Table) (rows : List Row) → new t.tree ≡ old t.tree → HoldsRows old t rows → HoldsRows new t rows
  kept_rows t rows same h = subst (λ rs. IsShaped shape.Table rs × (map (drop 1) rs ≡ rows)) (sym same) h

  others_kept : (tables : List Table) (all : List (List Row)) → list_all (λ (u : Table). not (u.tree == tree)) tables ≡ true → Spares tables
      → AllZip (HoldsRows old) tables all → AllZip (HoldsRows new) tables all
  others_kept [] [] apart spares h = tt
  others_kept [] (rows ∷ all) apart spares h = absurd h
  others_kept (t ∷ tables) [] apart spares h = absurd h
  others_kept (t ∷ tables) (rows ∷ all) apart spares h =
      let parts = and_parts _ _ apart in
      (kept_rows t rows (spares.0 (other_tree _ _ parts.0)) h.0, others_kept tables all parts.1 spares.1 h.1)

  -- the table at the place has other rows, and the others have theirs
  pub framed : (k : ℕ) (tables : List Table) (all : List (List Row)) (rows : List Row) → is_lone tree k tables ≡ true → Spares tables
      → IsShaped shape.Table (new tree)
      → map (drop 1) (new tree) ≡ rows → AllZip (HoldsRows old) tables all → AllZip (HoldsRows new) tables (with_rows k rows all)
  framed k [] all rows lone spares shaped is h = absurd (let e = lone in cc)
  framed k (t ∷ tables) [] rows lone spares shaped is h = absurd h
  framed zero (t ∷ tables) (was ∷ all) rows lone spares shaped is h =
      let parts = and_parts (t.tree == tree) _ lone in (
        subst (λ n. IsShaped shape.Table (new n) × (map (drop 1) (new n) ≡ rows)) (sym (same_tree _ _ parts.0)) (shaped, is),
        others_kept tables all parts.1 spares.1 h.1,
      )
  framed (suc k) (t ∷ tables) (was ∷ all) rows lone spares shaped is h =
      let parts = and_parts (not (t.tree == tree)) _ lone in
      (kept_rows t was (spares.0 (other_tree _ _ parts.0)) h.0, framed k tables all rows parts.1 spares.1 shaped is h.1)

-- the rows of the table at the place
pub rows_there : (tree : ℕ) (trees : Trees) (k : ℕ) (tables : List Table) (all : List (List Row)) → is_lone tree k tables ≡ true
    → AllZip (HoldsRows trees) tables all
    → IsShaped shape.Table (trees tree) × (map (drop 1) (trees tree) ≡ rows_at k all)
rows_there tree trees k [] all lone h = absurd (let e = lone in cc)
rows_there tree trees k (t ∷ tables) [] lone h = absurd h
rows_there tree trees zero (t ∷ tables) (rows ∷ all) lone h =
    subst (λ n. IsShaped shape.Table (trees n) × (map (drop 1) (trees n) ≡ rows)) (same_tree _ _ (and_parts (t.tree == tree) _ lone).0) h.0
rows_there tree trees (suc k) (t ∷ tables) (rows ∷ all) lone h = rows_there tree trees k tables all (and_parts (not (t.tree == tree)) _ lone).1 h.1

-- ---- with and without the order of the rowids

zipped : (P Q R : Table → List Row → Type 0) → ((t : Table) (rows : List Row) → P t rows → Q t rows → R t rows) → (tables : List Table) (all : List (List Row))
    → AllZip P tables all → AllZip Q tables all → AllZip R tables all
zipped P Q R f [] [] p q = tt
zipped P Q R f [] (rows ∷ all) p q = absurd p
zipped P Q R f (t ∷ tables) [] p q = absurd p
zipped P Q R f (t ∷ tables) (rows ∷ all) p q = (f t rows p.0 q.0, zipped P Q R f tables all p.1 q.1)

ordered : (trees : Trees) (tables : List Table) (all : List (List Row)) → AllByRecursion (λ t. IsShaped shape.Table (trees t.tree)) tables
    → AllZip (HasRows trees) tables all → AllZip (HoldsRows trees) tables all
ordered trees [] [] rise h = tt
ordered trees [] (rows ∷ all) rise h = absurd h
ordered trees (t ∷ tables) [] rise h = absurd h
ordered trees (t ∷ tables) (rows ∷ all) rise h = ((rise.0, h.0), ordered trees tables all rise.1 h.1)

-- a database whose tables are in order, and that shows these rows
pub held : (schema : Schema) (all : List (List Row)) (db : Database) → TablesRise db → HasAllRows schema all db → HoldsAllRows schema all db
held schema all db rise h = record {
  schema_is = h.schema_is;
  rows_are = ordered db.trees schema.tables all (subst (λ (s : Schema). AllByRecursion (λ t. IsShaped shape.Table (db.trees t.tree)) s.tables) h.schema_is
      rise) h.rows_are;
}

pub showing : (schema : Schema) (all : List (List Row)) (db : Database) → HoldsAllRows schema all db → HasAllRows schema all db
showing schema all db h = record {
  schema_is = h.schema_is;
  rows_are =
      zipped _ _ (HasRows db.trees) (λ t rows p q. p.1) schema.tables all h.rows_are h.rows_are;
}

-- the rows of the table at the place, in whatever order of rowids
pub shown_there : (tree : ℕ) (trees : Trees) (k : ℕ) (tables : List Table) (all : List (List Row)) → is_lone tree k tables ≡ true
    → AllZip (HasRows trees) tables all
    → map (drop 1) (trees tree) ≡ rows_at k all
shown_there tree trees k [] all lone h = absurd (let e = lone in cc)
shown_there tree trees k (t ∷ tables) [] lone h = absurd h
shown_there tree trees zero (t ∷ tables) (rows ∷ all) lone h =
    subst (λ n. map (drop 1) (trees n) ≡ rows) (same_tree _ _ (and_parts (t.tree == tree) _ lone).0) h.0
shown_there tree trees (suc k) (t ∷ tables) (rows ∷ all) lone h = shown_there tree trees k tables all (and_parts (not (t.tree == tree)) _ lone).1 h.1

-- a new table at the end, with no rows
pub with_table : (old new : Trees) (tables : List Table) (all : List (List Row)) (t : Table) → AllByRecursion (λ (u : Table). new u.tree ≡ old u.tree) tables
    → new t.tree ≡ []
    → AllZip (HoldsRows old) tables all → AllZip (HoldsRows new) (tables ++ t ∷ []) (all ++ [] ∷ [])
with_table old new [] [] t kept empty h = (subst (λ rs. IsShaped shape.Table rs × (map (drop 1) rs ≡ [])) (sym empty) ((tt, tt), refl), tt)
with_table old new [] (rows ∷ all) t kept empty h = absurd h
with_table old new (u ∷ tables) [] t kept empty h = absurd h
with_table old new (u ∷ tables) (rows ∷ all) t kept empty h =
    (subst (λ rs. IsShaped shape.Table rs × (map (drop 1) rs ≡ rows)) (sym kept.0) h.0, with_table old new tables all t kept.1 empty h.1)
