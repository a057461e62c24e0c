-- What the proofs of this crate share: the words of its definitions and of those below, and the lemmas that more than one proof cites.
pub use Rattle.std.proofs.Common.{◌%◌, ◌≢◌, ◌⊎◌, IsErrAnd, eq-eqb, inl, inr, subst₂}
pub use Rattle.std.proofs.lemmas.Option.{IfSome_then}
pub use Rattle.sqlite.specs.Files.{HoldsDatabase, file_state}
pub use Rattle.sqlite.specs.Opening.{unrooted}
pub use Rattle.sqlite.specs.declared.error.Error.{Error}
pub use Rattle.sqlite_catalog.specs.Listing.{Lists}
pub use Rattle.sqlite_exec.specs.Calls.{OnlyReads}
pub use Rattle.sqlite_pool.specs.File.{in_use}
pub use Rattle.sqlite_pool.specs.Stored.{Recovers}
pub use Rattle.sqlite_pool.specs.StoredLaws.{recovers_once}
pub use Rattle.sqlite_schema.specs.declared.schema.Schema.{Schema}
pub use Rattle.sqlite_store.specs.Db.{rows_at}
pub use Rattle.sqlite_store.specs.FileStore.{view}
pub use Rattle.sqlite_store.specs.Joined.{joined}
pub use Rattle.sqlite_store.specs.Listing.{file_trees}
pub use Rattle.sqlite_store.specs.Unopened.{image, state_of}
pub use Rattle.sqlite_trees.specs.Objects.{catalog_tree}
pub use Rattle.sqlite_trees.specs.Tree.{Trees}
pub use Rattle.sqlite_trees.specs.View.{IsClean, IsQuiet, KeepsSchema, View}
pub use Rattle.sqlite_trees.specs.declared.error.StoreError.{StoreError}
pub use Rattle.sqlite_trees.specs.declared.store.Shape.TheVariants.{Table}
pub use Rattle.sqlite_trees.specs.declared.store.Store.{Ghosts}
pub use Rattle.sqlite_value.specs.declared.value.Value.TheVariants.{Null, Text}
pub use Rattle.sqlite_wal.specs.Files.{seen_image}
pub use Rattle.sqlite_wal.specs.Recovery.{Image}
pub use Rattle.upd_core.proofs.Common.{[], ℕ, ◌++◌, ◌∙◌, ◌∷◌, ◌≡◌, ◌≤◌, Bool, List, Some, ap, arith, drop, false, if◌then◌else◌, length, length-map, map}
pub use Rattle.upd_core.proofs.Common.{refl, rules, subst, sym, take, true}
pub use Rattle.upd_row_store.proofs.Common.{Err, Ok, Result, Rows}
pub use Rattle.upd_row_store.proofs.HolderLemmas.{ages_of_rows}
pub use Rattle.upd_row_store.specs.Keeping.{OfStore}
pub use Rattle.upd_sql.proofs.Common.{IfOk, IsTrue, Row, Shown, State, ap₂, codes, filter, library_schema, list_all, num, state}
pub use Rattle.upd_sql.specs.Commits.{ShowsIn}
pub use Rattle.upd_store.specs.TreeOpening.{FindsTrees}
pub use Rattle.upd_store.specs.TreeReads.{Finds}
pub use Rattle.upd_store.specs.Version.{HasVersion}
pub use Rattle.upd_text.specs.declared.fault.Fault.{Fault}
