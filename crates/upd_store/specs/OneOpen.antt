-- What one open finds, for the store over the trees and for the one through SQL.
use Rattle.std.specs.Prelude.{◌≡◌, ◌≤◌, ◌⊎◌, ℕ, Bool, List, IsSome, IsTrue, false, true}
use Rattle.sqlite_catalog.specs.Listing.{Lists}
use Rattle.sqlite_trees.specs.Objects.{catalog_tree}
use Rattle.sqlite_trees.specs.View.{View, doubt, IsClean}
use Rattle.sqlite_trees.specs.declared.store.Store.{Ghosts}
use Rattle.sqlite_wal.specs.Recovery.{Image}
use Rattle.sqlite.specs.Held.{Held, state}
use Rattle.sqlite.specs.State.{HasCleanDisk}
use Rattle.sqlite.specs.Steps.{IsFresh}
use Rattle.upd_records.specs.Rows.{Rows}
use Rattle.upd_row_store.specs.Tables.{mark_at, run_at}
use Rattle.upd_sql.specs.Schema.{library_schema}
use Rattle.upd_store.specs.declared.one_open.Purpose.{Purpose}
use Rattle.upd_store.specs.declared.one_open.Purpose.TheVariants.{Reading, Run, Writing}
use Rattle.upd_store.specs.TreeOpening.{FindsTrees}
use Rattle.upd_store.specs.TreeReads.{IsLibrary}

-- the reply to a run of this key is stored, or settled
abbrev pub IsAnswered : List ℕ → ℕ → Rows → Type 0
IsAnswered site number rows = IsSome (run_at site number rows) ⊎ (number ≤ mark_at site rows)

-- the trees of this library serve a purpose: a question, or a run that is a repeat
abbrev pub IsServed : Purpose → Rows → Type 0
IsServed Reading rows = Unit {0}
IsServed (Run site number) rows = IsAnswered site.now number rows
IsServed Writing rows = ⊥

-- a purpose that trees may serve
abbrev pub IsBelow : Purpose → Type 0
IsBelow Writing = ⊥
IsBelow _ = Unit {0}

-- how many pages of a file are kept in memory: fewer for one run, which keeps the rows of the whole library as well, and
-- fewest for what works once on a small file
abbrev pub pages_kept : Purpose → Bool → ℕ
pages_kept (Run site number) true = 320
pages_kept (Run site number) false = 1000
pages_kept Reading true = 320
pages_kept Reading false = 2000
pages_kept Writing is_small = 2000

-- A store that was just opened. If its trees list the library's schema, they are the database that the files held.
pub record MayFind (image : Image) (v : View) : Type 0 where
  pub fresh : IsFresh v
  pub is_open : IsTrue v.is_open
  pub finds : Lists (v.trees catalog_tree) library_schema → FindsTrees image v.trees

-- The connection is over this store, and to a library.
pub record IsTaken {S : Type 0} (g : Ghosts S) (store : S) (conn : Held S) : Type 0 where
  pub clean : doubt (g.view store).is_clean ≤ doubt (state g conn).is_clean
  pub ours : HasCleanDisk (state g conn) → IsTrue (state g conn).is_open → (state g conn).committed.schema ≡ library_schema
  pub trees : HasCleanDisk (state g conn) → IsTrue (state g conn).is_open → (state g conn).committed.trees ≡ (g.view store).trees
  pub lists : HasCleanDisk (state g conn) → IsTrue (state g conn).is_open → Lists ((g.view store).trees catalog_tree) library_schema

-- The trees of this store are a library's, and as they were.
pub record IsKept {S : Type 0} (g : Ghosts S) (store last : S) : Type 0 where
  pub clean : doubt (g.view store).is_clean ≤ doubt (g.view last).is_clean
  pub same : IsClean (g.view last) → (g.view last).committed ≡ (g.view store).trees
  pub ours : IsClean (g.view last) → IsLibrary (g.view last).committed
