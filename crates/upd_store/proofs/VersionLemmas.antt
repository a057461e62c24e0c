-- What the text that asks for the version answers in a library's file.
use Rattle.upd_store.proofs.Common.{◌≡◌, ◌⊎◌, ℕ, Bool, true, false, inl, inr, if◌then◌else◌, List, [], ◌∷◌, codes, drop, map, filter, refl, sym, ap, subst}
use Rattle.upd_store.proofs.Common.{◌∙◌, list_all, Null, Text, Row, Schema, State, Shown, num, HasVersion}
use Rattle.std.proofs.Common.{IsPermutation}
use Rattle.std.proofs.lemmas.List.{nil_from_length}
use Rattle.std.proofs.lemmas.List.Sorted.{length_permutation}
use Rattle.sqlite_value.specs.declared.keys.Collation.TheVariants.{Binary}
use Rattle.sqlite_sql.specs.declared.ops.CompareOp.TheVariants.{Eq}
use Rattle.sqlite_sql.specs.declared.ops.BinaryOp.TheVariants.{Compare}
use Rattle.sqlite_sql.specs.Term.{Term, col, lit, op2, eval_all, holds}
use Rattle.sqlite_schema.specs.declared.command.Command.TheVariants.{Select}
use Rattle.sqlite_tied.specs.Compute.{everything}
use Rattle.sqlite.specs.Listing.{understood, reads_listing}
use Rattle.sqlite.proofs.Callers.{IsPlain, command_of, one_permutation, reads_as}
use Rattle.sqlite_keyed.proofs.ListLemmas.{filter-map, filter_same, map-map, map_same}
use Rattle.upd_sqlite.specs.Keyed.{plain_query}
use Rattle.upd_sqlite.specs.Stored.{HasRows}
use Rattle.upd_sqlite.proofs.Queries.{any_order}
use Rattle.upd_sqlite.proofs.Tests.{eq_text, one_test}
use Rattle.upd_sql.specs.Encoded.{version_row}
use Rattle.upd_sql.specs.Schema.{meta}
use Rattle.upd_sql.specs.Wanted.{first_tables}
use Rattle.upd_store.specs.declared.version.TheConstants.{READ_VERSION}
use Rattle.upd_store.specs.Version.{IsLibrarySchema}

abbrev pub version_text : List ℕ
version_text = READ_VERSION.now

abbrev tests : List Term
tests = op2 (Compare Eq Binary) (col 1 1) (lit (Text (codes "version"))) ∷ []

abbrev project : List Term
project = col 1 2 ∷ []

-- the text's meaning where the first table is `meta`
record Asks (schema : Schema) : Type 0 where
  pub is : command_of (understood schema version_text) ≡ Select (record { lets = []; body = plain_query 0 tests project [] }) (codes "v" ∷ [])
  pub plain : IsPlain (understood schema version_text)
  pub unlisted : reads_listing schema version_text ≡ false

asks_first : Asks (first_tables 6)
unfolding understood everything
asks_first = record { is = refl; plain = (refl, refl); unlisted = refl }

asks_second : Asks (first_tables 8)
unfolding understood everything
asks_second = record { is = refl; plain = (refl, refl); unlisted = refl }

asks_third : Asks (first_tables 9)
unfolding understood everything
asks_third = record { is = refl; plain = (refl, refl); unlisted = refl }

asks : (s : Schema) → IsLibrarySchema s → Asks s
asks s (inl is) = subst Asks (sym is) asks_first
asks s (inr (inl is)) = subst Asks (sym is) asks_second
asks s (inr (inr is)) = subst Asks (sym is) asks_third

abbrev passes : Row → Bool
passes v = list_all (holds ([] ∷ (Null ∷ v) ∷ [])) tests

abbrev shown : Row → Row
shown v = eval_all project ([] ∷ (Null ∷ v) ∷ [])

passing : (v : ℕ) → passes (version_row v) ≡ true
passing v = one_test (eq_text (codes "version") (codes "version"))

one_row : (v : ℕ) → map shown (filter passes (version_row v ∷ [])) ≡ (num v ∷ []) ∷ []
one_row v = ap (λ b. map shown (if b then version_row v ∷ [] else [])) (passing v)

-- the rowid plays no part
means : (r : Row) → list_all (holds ([] ∷ r ∷ [])) tests ≡ passes (drop 1 r)
means [] = refl
means (v ∷ r) = refl

shows : (r : Row) → eval_all project ([] ∷ r ∷ []) ≡ shown (drop 1 r)
shows [] = refl
shows (v ∷ r) = refl

-- what is shown of the rows of `meta`
answered : (old new : State) (rows all : List Row) → IsLibrarySchema old.now.schema → HasRows old.now.trees meta all → Shown version_text [] old new rows
    → IsPermutation (map shown (filter passes all)) rows
answered old new rows all schema has found =
    let asked = asks old.now.schema schema in
    let reads = reads_as version_text [] old new old.now.schema refl _ asked.is asked.plain asked.unlisted rows found in
    let answer = any_order 0 tests project [] [] old.now.trees refl rows reads.answer in
    let tree = old.now.trees 0 in
    let named : map (λ r. eval_all project ([] ∷ r ∷ [])) (filter (λ r. list_all (holds ([] ∷ r ∷ [])) tests) tree) ≡ map shown (filter passes all) =
    ap (map (λ r. eval_all project ([] ∷ r ∷ []))) (filter_same _ (λ r. passes (drop 1 r)) means tree)
    ∙ map_same _ (λ r. shown (drop 1 r)) shows _
    ∙ sym (map-map shown (drop 1) _) ∙ ap (map shown) (sym (filter-map passes (drop 1) tree))
    ∙ ap (λ rs. map shown (filter passes rs)) has in
    subst (λ l. IsPermutation l rows) named answer

-- only the version, and nothing where there is no row
pub version_shown : (v : ℕ) (old new : State) (rows : List Row) → HasVersion v old.now → Shown version_text [] old new rows
    → (rows ≡ (num v ∷ []) ∷ []) ⊎ ((v ≡ 0) × (rows ≡ []))
version_shown v old new rows h found = elim h.rows [
  | inl row ↦ inl (one_permutation _ rows (subst (λ l. IsPermutation l rows) (one_row v) (answered old new rows _ h.schema row found)))
  | inr none ↦ inr (none.0, nil_from_length rows (length_permutation [] rows (answered old new rows [] h.schema none.1 found)))
]
