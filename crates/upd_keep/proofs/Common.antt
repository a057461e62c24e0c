-- What the proofs of this crate share: the words of its definitions and of those below, and the lemmas that more than one proof cites.
pub use Rattle.std.specs.Result.{IsOkUnless}
pub use Rattle.sqlite.specs.Held.{Held}
pub use Rattle.sqlite.specs.declared.error.Error.{Error}
pub use Rattle.sqlite_disk.specs.Disk.{Holds, MoreFaults}
pub use Rattle.sqlite_disk.specs.declared.Disk.{Ghosts}
pub use Rattle.sqlite_trees.specs.declared.error.StoreError.{StoreError}
pub use Rattle.upd_core.proofs.Common.{[], ℕ, ◌&&◌, ◌++◌, ◌+◌, ◌<◌, ◌∙◌, ◌∷◌, ◌≡◌, Bool, List, None, Option, Some, ap, arith, drop, false, length, nat_tests}
pub use Rattle.upd_core.proofs.Common.{refl, rules, subst, sym, take, true}
pub use Rattle.upd_deck.proofs.Common.{◌⊎◌, Err, IsTrue, Ok, Result}
pub use Rattle.upd_desk.proofs.Common.{ArrivalView, Came, IsLost, OfMemory, fault_at}
pub use Rattle.upd_diff.proofs.Common.{IsSame, Rows, count_cons, inl, inr}
pub use Rattle.upd_keep.specs.Examining.{reply_bytes}
pub use Rattle.upd_keep.specs.Replaying.{arrival_of, journal_with}
pub use Rattle.upd_row_store.proofs.Common.{count_by}
pub use Rattle.upd_sql.proofs.Common.{HasCleanDisk, State, clean_before, library_schema, no_rows, state}
pub use Rattle.upd_sql.proofs.Typed.{survives_itself}
pub use Rattle.upd_store.proofs.Common.{OfStore, file_state}
pub use Rattle.upd_store.specs.Faults.{kind_for}
pub use Rattle.upd_text.specs.declared.fault.Fault.{Fault}
pub use Rattle.upd_text.specs.declared.fault.FaultKind.TheVariants.{NoMemory, Store}
