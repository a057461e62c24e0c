-- From the steps of a transaction and its commit to what the whole of it does.
use Rattle.upd_sql.proofs.Common.{◌≡◌, Ok, refl, sym, ap, subst, ◌∙◌, IsTrue, true, State, HasCleanDisk, Survives, Rows, Database, Makes, Steps, clean_before}
use Rattle.upd_sql.proofs.Common.{showing, library_schema, no_schema, no_rows, HasEmptyTables, Transforms, MayMake, stored, HoldsTables, WasOpen, MayCommit}
use Rattle.upd_sql.proofs.Common.{MayKeep}
use Rattle.sqlite.proofs.StateLemmas.{survives_then}
use Rattle.upd_sqlite.specs.Rising.{TablesRise}
use Rattle.upd_sqlite.proofs.Frames.{held}
use Rattle.upd_sql.specs.LibraryTables.{ShowsTables}
use Rattle.upd_sql.specs.Commits.{ShowsIn, LeavesTables}

module _ (F : Rows → Type 0) (f : Rows → Rows) (old last end : State) {X : Type 0} (x : X) (rise : IsTrue old.is_open → TablesRise old.now)
    (settled : IsTrue old.is_open → old.now ≡ old.committed)
    (m : Makes {X = X} HoldsTables F f (record old { in_transaction = true }) last (Ok x)) where
  transformed : HasCleanDisk last → IsTrue old.is_open → (it : Rows) → ShowsTables it old.committed → F it → HoldsTables (f it) last.now
  transformed clean o it shown fits =
      m.made clean refl it fits (held library_schema (stored it) old.now (rise o) (subst (ShowsTables it) (sym (settled o)) shown))

  pub crash_leaves : (HasCleanDisk last → IsTrue old.is_open) → Survives last end (λ db. db ≡ last.now.trees)
      → Survives (record old { in_transaction = true }) end (MayCommit F f old)
  crash_leaves opened s =
      survives_then (record old { in_transaction = true }) last end (λ _. ⊥) (λ db. db ≡ last.now.trees) (MayCommit F f old) (λ _ db none. absurd none)
      (λ clean db is.
      let early = clean_before last end _ s clean in
      let o = opened early in (
        o,
        λ it shown fits. subst (λ t. ShowsIn t (f it)) (sym is)
            (showing library_schema (stored (f it)) last.now (transformed early o it shown fits)).rows_are,
      ))
      m.steps.survives s

module _ (old last end : State) {X : Type 0} (x : X) (settled : IsTrue old.is_open → old.now ≡ old.committed)
    (steps : Steps {X = X} (record old { in_transaction = true }) last (Ok x))
    (was_open : WasOpen {X = X} (record old { in_transaction = true }) last (Ok x))
    (same : LeavesTables {X = X} (record old { in_transaction = true }) last (Ok x)) where
  still : HasCleanDisk last → IsTrue old.is_open → old.committed.schema ≡ library_schema → last.now ≡ old.committed
  still clean o schema = same clean (ap (λ (d : Database). d.schema) (settled o) ∙ schema) ∙ settled o

  pub read_leaves : Survives last end (λ db. db ≡ last.now.trees) → Survives (record old { in_transaction = true }) end (MayKeep old)
  read_leaves s =
      survives_then (record old { in_transaction = true }) last end (λ _. ⊥) (λ db. db ≡ last.now.trees) (MayKeep old) (λ _ db none. absurd none)
      (λ clean db is.
      let early = clean_before last end _ s clean in
      let o = was_open early refl in
      (o, λ schema. is ∙ ap (λ (d : Database). d.trees) (still early o schema)))
      steps.survives s

module _ (old last end : State) {X : Type 0} (x : X) (settled : IsTrue old.is_open → old.now ≡ old.committed)
    (m : Transforms {X = X} (HasEmptyTables 0) (HoldsTables no_rows) (record old { in_transaction = true }) last (Ok x)) where
  laid : HasCleanDisk last → IsTrue old.is_open → old.committed.schema ≡ no_schema → HoldsTables no_rows last.now
  laid clean o empty = m.transformed clean refl (record { schema_is = ap (λ (d : Database). d.schema) (settled o) ∙ empty; rows_are = tt })

  pub making_leaves : WasOpen {X = X} (record old { in_transaction = true }) last (Ok x) → Survives last end (λ db. db ≡ last.now.trees)
      → Survives (record old { in_transaction = true }) end (MayMake old)
  making_leaves was_open s =
      survives_then (record old { in_transaction = true }) last end (λ _. ⊥) (λ db. db ≡ last.now.trees) (MayMake old) (λ _ db none. absurd none)
      (λ clean db is.
      let early = clean_before last end _ s clean in
      let o = was_open early refl in
      (o, λ empty. subst (λ t. ShowsIn t no_rows) (sym is) (showing library_schema (stored no_rows) last.now (laid early o empty)).rows_are))
      m.steps.survives s
