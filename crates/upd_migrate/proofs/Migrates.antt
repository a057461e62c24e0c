-- From the steps of a migration and its commit to what the whole of it does.
use Rattle.upd_migrate.proofs.Common.{◌≡◌, ℕ, Result, Ok, Err, OnOk, refl, sym, ap, subst, ◌∙◌, IsTrue, true, false, Database, State, HasCleanDisk, Survives}
use Rattle.upd_migrate.proofs.Common.{LibraryView, Rows, TablesRise, HoldsAllRows, clean_before, stored, Transforms, library_schema, HasVersion, Version}
use Rattle.upd_migrate.proofs.Common.{AreLibraryRows, IsMigrated, MayMigrateFrom, MigratesFrom, HoldsAfter, ShowsAs, number_of, schema_of, stored_in}
use Rattle.sqlite.specs.State.{Shows}
use Rattle.sqlite.proofs.StateLemmas.{survives_then}
use Rattle.upd_sqlite.specs.Steps.{Steps}
use Rattle.upd_sqlite.proofs.Frames.{showing}
use Rattle.upd_sql.specs.Commits.{ShowsIn, WasOpen}
use Rattle.upd_sql.specs.LibraryTables.{ShowsTables}
use Rattle.upd_migrate.specs.Migrated.{HasMigrated, MayMigrate, Migrates}
use Rattle.upd_migrate.proofs.Loaded.{begun_holds}
use Rattle.upd_migrate.proofs.Versions.{one_version}

module _ (version : Version) (old last end : State) {X : Type 0} (x : X) (rise : IsTrue old.is_open → TablesRise old.now)
    (settled : IsTrue old.is_open → old.now ≡ old.committed) (steps : Steps {X = X} (record old { in_transaction = true }) last (Ok x))
    (transforms : (l : LibraryView) (rows : Rows) → AreLibraryRows l rows → Transforms {X = X} (HoldsAllRows (schema_of version) (stored_in version rows))
    (HoldsAfter (IsMigrated version l rows)) (record old { in_transaction = true }) last (Ok x)) where
  transformed : HasCleanDisk last → IsTrue old.is_open → (l : LibraryView) (rows : Rows) → AreLibraryRows l rows → ShowsAs version rows old.committed
      → HoldsAfter (IsMigrated version l rows) last.now
  transformed clean o l rows lib shown = (transforms l rows lib).transformed clean refl (begun_holds version rows old rise settled o shown)

  pub committed_whole : HasCleanDisk last → Shows last end last.now last.now false → IsTrue end.is_open × IsTrue old.is_open × MigratesFrom version old end
  committed_whole clean ended =
      let o = (steps.kept clean refl).was_open ended.was_open in (
        ended.is_open,
        o,
        λ l rows lib shown.
            let after = transformed clean o l rows lib shown in
            (after.0, after.1, subst (ShowsTables after.0) (sym ended.committed_is) (showing library_schema (stored after.0) last.now after.2)),
      )

  pub migration_leaves : WasOpen {X = X} (record old { in_transaction = true }) last (Ok x) → Survives last end (λ db. db ≡ last.now.trees)
      → Survives (record old { in_transaction = true }) end (MayMigrateFrom version old)
  migration_leaves was_open s =
      survives_then (record old { in_transaction = true }) last end (λ _. ⊥) (λ db. db ≡ last.now.trees) (MayMigrateFrom version old)
      (λ _ db none. absurd none)
      (λ clean db is.
      let early = clean_before last end _ s clean in
      let o = was_open early refl in (
        o,
        λ l rows lib shown.
            let after = transformed early o l rows lib shown in
            (after.0, after.1, subst (λ t. ShowsIn t after.0) (sym is) (showing library_schema (stored after.0) last.now after.2).rows_are),
      ))
      steps.survives s

pub on_ok : {A E P Q : Type 0} (r : Result A E) → OnOk r P → (P → Q) → OnOk r Q
on_ok (Ok x) h then = then h
on_ok (Err e) h then = tt

-- ---- the version of a file is known from its schema

module _ (found : Version) (old mid : State) (schema : IsTrue mid.is_open → mid.committed.schema ≡ schema_of found)
    (same : HasCleanDisk mid → IsTrue mid.is_open → mid.committed ≡ old.committed) where
  is_found : HasCleanDisk mid → IsTrue mid.is_open → (version : Version) (rows : Rows) → ShowsAs version rows old.committed
      → (version ≡ found) × ShowsAs version rows mid.committed
  is_found clean o version rows shown =
      let there = subst (ShowsAs version rows) (sym (same clean o)) shown in (one_version version found (sym there.schema_is ∙ schema o), there)

  pub migrates_any : (new : State) → HasCleanDisk mid → IsTrue mid.is_open → MigratesFrom found mid new → Migrates old new
  migrates_any new clean o done version l rows lib shown =
      let known = is_found clean o version rows shown in
      subst (λ v. ShowsAs v rows mid.committed → HasMigrated v l rows new.committed) (sym known.0) (λ there. done l rows lib there) known.1

  pub any_leaves : (new : State) → (HasCleanDisk mid → IsTrue mid.is_open → IsTrue old.is_open)
      → (HasCleanDisk mid → (n : ℕ) → HasVersion n old.committed → n ≡ number_of found) → Survives old mid (λ _. ⊥)
      → Survives mid new (MayMigrateFrom found mid) → Survives old new (MayMigrate old)
  any_leaves new was_open value first second =
      survives_then old mid new (λ _. ⊥) (MayMigrateFrom found mid) (MayMigrate old) (λ _ db none. absurd none)
      (λ clean db may.
      let early = clean_before mid new _ second clean in (
        was_open early may.0,
        (found, ap (λ (d : Database). d.schema) (sym (same early may.0)) ∙ schema may.0, value early),
        λ version l rows lib shown.
            let known = is_found early may.0 version rows shown in
            subst (λ v. ShowsAs v rows mid.committed → (after : Rows) × IsMigrated v l rows after × ShowsIn db after) (sym known.0)
            (λ there. may.1 l rows lib there) known.1,
      ))
      first second
