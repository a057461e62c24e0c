-- What a read of a store of trees leaves and finds.
use Rattle.std.specs.Prelude.{◌≡◌, [], ◌∷◌, false, Result, IfErr, IfOk, OnOk, IsTrue}
use Rattle.sqlite_trees.specs.declared.error.StoreError.{StoreError}
use Rattle.sqlite_trees.specs.declared.error.StoreError.TheVariants.{OutOfMemory}
use Rattle.sqlite_trees.specs.declared.store.Store.{Ghosts}
use Rattle.sqlite_trees.specs.Tree.{Trees}
use Rattle.sqlite_trees.specs.View.{View, IsClean, IsFailure, IsQuiet, KeepsSchema}
use Rattle.sqlite_trees.specs.Objects.{catalog_tree}
use Rattle.sqlite_exec.specs.Calls.{OnlyReads}
use Rattle.sqlite_catalog.specs.Listing.{Lists}
use Rattle.upd_records.specs.Rows.{Rows}
use Rattle.upd_records.specs.declared.rows.LibraryRows.{LibraryRows}
use Rattle.upd_sqlite.specs.Stored.{HasRows}
use Rattle.upd_sql.specs.Commits.{ShowsIn}
use Rattle.upd_sql.specs.Encoded.{version_row}
use Rattle.upd_sql.specs.Schema.{library_schema, meta}
use Rattle.upd_text.specs.declared.fault.FaultKind.{FaultKind}
use Rattle.upd_text.specs.declared.fault.FaultKind.TheVariants.{NoMemory, Store}

-- these are the rows of the four tables that a library is made of, in their order
pub record ListsLibrary (it : Rows) (found : LibraryRows) : Type 0 where
  pub idents : found.idents.items ≡ it.idents
  pub cards : found.cards.items ≡ it.cards
  pub entries : found.entries.items ≡ it.entries
  pub targets : found.targets.items ≡ it.targets

-- out of memory is NoMemory, any other error of the trees a failure of the store
abbrev pub kind_of_read : StoreError → FaultKind
kind_of_read OutOfMemory = NoMemory
kind_of_read _ = Store

-- nothing is written, and no failure waits for a rollback
abbrev pub IsWhole : View → Type 0
IsWhole v = IsClean v → IsTrue v.is_open → (v.is_broken ≡ false) × (v.trees ≡ v.committed)

-- The trees are a library's of version 3: SQL finds the library's schema in them.
pub record IsLibrary (trees : Trees) : Type 0 where
  pub lists : Lists (trees catalog_tree) library_schema
  pub third : HasRows trees meta (version_row 3 ∷ [])

module _ {S : Type 0} (store : Ghosts S) (old new : S) where
  -- A read moves cursors and nothing else. It succeeds only where the transaction isn't broken. After a failure the transaction may be broken, and what
  -- was committed stays while the store is open. What is found is right of the tables that the trees show.
  pub record Finds {A : Type 0} (Right : Rows → A → Type 0) (result : Result A StoreError) : Type 0 where
    pub same : IsClean (store.view new) → OnOk result (OnlyReads (store.view old) (store.view new))
    pub sound : IsClean (store.view new) → OnOk result ((store.view old).is_broken ≡ false)
    pub err : IsClean (store.view new) → IfErr result (IsFailure (store.view old) (store.view new))
    pub schema : KeepsSchema (store.view old) (store.view new)
    pub quiet : IsQuiet store.view store.faults store.recovers store.is_shielded old new
    pub found : IsClean (store.view new) → IfOk result (λ x. (it : Rows) → ShowsIn (store.view old).trees it → Right it x)

  -- A read outside of a transaction: it answers what is right of the committed tables, and leaves them.
  pub record Answers {A E : Type 0} (Right : Rows → A → Type 0) (result : Result A E) : Type 0 where
    pub whole : IsWhole (store.view new)
    pub was_open : IsClean (store.view new) → IsTrue (store.view new).is_open → IsTrue (store.view old).is_open
    pub opens : IsClean (store.view new) → OnOk result (IsTrue (store.view old).is_open × IsTrue (store.view new).is_open)
    pub kept : IsClean (store.view new) → IsTrue (store.view new).is_open → (store.view new).committed ≡ (store.view old).committed
    pub quiet : IsQuiet store.view store.faults store.recovers store.is_shielded old new
    pub found : IsClean (store.view new) → IfOk result (λ x. (it : Rows) → ShowsIn (store.view old).committed it → Right it x)

  -- the trees of a store that was just opened are a library's, and they are as they were
  pub record IsAdopted : Type 0 where
    pub quiet : IsQuiet store.view store.faults store.recovers store.is_shielded old new
    pub is_open : IsClean (store.view new) → IsTrue (store.view new).is_open
    pub same : IsClean (store.view new) → OnlyReads (store.view old) (store.view new)
    pub ours : IsClean (store.view new) → IsLibrary (store.view new).committed
