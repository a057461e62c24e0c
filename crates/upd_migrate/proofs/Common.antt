-- What the proofs of this crate share: the words of its definitions and of those below, and the lemmas that more than one proof cites.
pub use Rattle.upd_apply.proofs.Common.{Err, Ok}
pub use Rattle.upd_core.proofs.Common.{[], ℕ, ◌++◌, ◌+◌, ◌<◌, ◌∙◌, ◌∷◌, ◌≡◌, AllByRecursion, IsSound, LibraryView, List, ap, arith, false, length, map, not}
pub use Rattle.upd_core.proofs.Common.{refl, rules, subst, sym, true}
pub use Rattle.upd_diff.proofs.Common.{◌^◌, AllFit, ChangeView, Rows, TakeGone, change_view, done_all, inl, row_changes_state}
pub use Rattle.upd_diff.specs.Touched.{touched}
pub use Rattle.upd_laws.proofs.Common.{empty}
pub use Rattle.upd_laws.proofs.SoundRunLemmas.{empty_sound}
pub use Rattle.upd_migrate.specs.Migrated.{AreLibraryRows, HoldsAfter, IsMigrated, MayMigrateFrom, MigratesFrom, completed}
pub use Rattle.upd_migrate.specs.Older.{HasTables, ShowsAs, number_of, schema_of, stored_in}
pub use Rattle.upd_migrate.specs.declared.older_version.Version.{Version}
pub use Rattle.upd_migrate.specs.declared.older_version.Version.TheVariants.{First, Second, Third}
pub use Rattle.upd_records.specs.declared.rows.LibraryRows.{LibraryRows}
pub use Rattle.upd_row_store.proofs.Common.{AreRowsOf, Result, ShowsStates}
pub use Rattle.upd_sql.proofs.Common.{Database, HasCleanDisk, HoldsAllRows, HoldsTables, IsTrue, Makes, OnOk, State, Survives, Transforms, clean_before}
pub use Rattle.upd_sql.proofs.Common.{library_schema, state, stored}
pub use Rattle.upd_sql.proofs.MakingLemmas.{transforms_from, transforms_stop, transforms_then}
pub use Rattle.upd_sql.specs.Commits.{Looks}
pub use Rattle.upd_sql.specs.Making.{schema_up_to}
pub use Rattle.upd_sql.specs.Wanted.{first_tables}
pub use Rattle.upd_sqlite.specs.Rising.{TablesRise}
pub use Rattle.upd_store.proofs.Common.{◌⊎◌, HasVersion}
pub use Rattle.upd_yank.proofs.Common.{IsRight}
