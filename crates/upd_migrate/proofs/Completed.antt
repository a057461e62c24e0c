-- What the texts that complete a file make of its tables.
use Rattle.upd_migrate.proofs.Common.{◌≡◌, ℕ, ◌+◌, true, List, [], ◌∷◌, ◌++◌, Ok, refl, ap, subst, ◌∙◌, State, Rows, HoldsAllRows, stored}
use Rattle.sqlite_tied.specs.Compute.{everything}
use Rattle.upd_migrate.proofs.Common.{schema_up_to, library_schema, HoldsTables, Version, HasTables, number_of}
use Rattle.std.proofs.Common.{pos, if◌then◌else◌, drop, codes}
use Rattle.std.specs.List.{list_all}
use Rattle.sqlite_value.specs.declared.value.Value.TheVariants.{Null, Int, Text}
use Rattle.sqlite_value.specs.declared.keys.Collation.TheVariants.{Binary}
use Rattle.sqlite_value.specs.Order.{Row}
use Rattle.sqlite_sql.specs.Term.{Term, lit, col, op2, holds, eval_all}
use Rattle.sqlite_sql.specs.declared.ops.CompareOp.TheVariants.{Eq}
use Rattle.sqlite_sql.specs.declared.ops.BinaryOp.TheVariants.{Compare}
use Rattle.sqlite_schema.specs.declared.command.Command.TheVariants.{Update}
use Rattle.sqlite_rules.specs.Cast.{cast_all}
use Rattle.sqlite.specs.Given.{IsPlain}
use Rattle.sqlite.specs.Listing.{understood}
use Rattle.sqlite.specs.State.{Executes}
use Rattle.sqlite.proofs.Callers.{command_of, runs_as}
use Rattle.upd_sqlite.specs.Keyed.{plain_query}
use Rattle.upd_sqlite.specs.Stored.{with_rows}
use Rattle.upd_sqlite.proofs.Shapes.{creates, cast_int, updates}
use Rattle.upd_sqlite.proofs.Tests.{eq_text, one_test}
use Rattle.upd_sql.specs.Encoded.{version_row}
use Rattle.upd_sql.specs.Making.{MakesNext}
use Rattle.upd_sql.specs.Schema.{meta_columns}
use Rattle.upd_sql.proofs.Typed.{own}
use Rattle.upd_sql.proofs.Bare.{bare_tests, bare_values}
use Rattle.upd_migrate.specs.declared.completing.TheConstants.{SET_VERSION}

-- the next table is made, and the others have their rows
pub next_made : (n : ℕ) (sql : List ℕ) → MakesNext n sql → (all : List (List Row)) (old new : State) (count : ℕ) → Executes sql [] old new (Ok count)
    → HoldsAllRows (schema_up_to n) all old.now
    → HoldsAllRows (schema_up_to (n + 1)) (all ++ [] ∷ []) new.now
next_made n sql m all old new count ran h =
    let w = runs_as sql [] old new (schema_up_to n) h.schema_is _ m.is m.plain count ran in
    subst (λ s. HoldsAllRows s (all ++ [] ∷ []) new.now) m.next (creates (schema_up_to n) m.table old new all _ [] count m.defined m.lacks h w)

abbrev pub set_version : List ℕ
set_version = SET_VERSION.now

abbrev set_tests : List Term
set_tests = op2 (Compare Eq Binary) (col 1 1) (lit (Text (codes "version"))) ∷ []

abbrev set_news : List Term
set_news = col 1 1 ∷ lit (Int (pos 3)) ∷ []

set_version_is : command_of (understood library_schema set_version)
    ≡ Update 0 (record { lets = []; body = plain_query 0 set_tests (col 1 0 ∷ col 1 0 ∷ set_news) [] })
unfolding understood everything
set_version_is = refl

set_version_plain : IsPlain (understood library_schema set_version)
unfolding understood everything
set_version_plain = (refl, refl)

-- the row of the version passes the test, whatever the version, and becomes that of the present schema
version_becomes : (version : Version) → (if list_all (holds ([] ∷ (Null ∷ version_row (number_of version)) ∷ [])) set_tests
    then cast_all meta_columns (eval_all set_news ([] ∷ (Null ∷ version_row (number_of version)) ∷ [])) else version_row (number_of version)) ≡ version_row 3
version_becomes version =
    let named : list_all (holds ([] ∷ (Null ∷ version_row (number_of version)) ∷ [])) set_tests ≡ true = one_test (eq_text (codes "version") (codes "version"))
    in
    ap (λ b. if b then cast_all meta_columns (Text (codes "version") ∷ Int (pos 3) ∷ []) else version_row (number_of version)) named ∙
    (rw (cast_int (pos 3)) refl)

-- the version is set
pub version_set : (version : Version) (it : Rows) (old new : State) (count : ℕ) → Executes set_version [] old new (Ok count) → HasTables version it old.now
    → HoldsTables it new.now
version_set version it old new count ran h =
    let all = (version_row (number_of version) ∷ []) ∷ drop 1 (stored it) in
    let w = runs_as set_version [] old new library_schema h.schema_is _ set_version_is set_version_plain count ran in
    subst (λ rows. HoldsAllRows library_schema (with_rows 0 rows all) new.now) (ap (λ row. row ∷ []) (version_becomes version))
    (updates library_schema 0 0 (codes "meta") meta_columns (1 ∷ []) refl refl (λ _ _. refl) old new all _ [] count h set_tests set_news
    (λ row. list_all (holds ([] ∷ (Null ∷ row) ∷ [])) set_tests) (λ row. eval_all set_news ([] ∷ (Null ∷ row) ∷ [])) (own old.now.trees 0)
    (λ row. bare_tests [] row set_tests refl) (λ row. bare_values [] row set_news refl) w)
