-- What a whole transaction does to the tables of the last commit, and what its statements do that only read.
use Rattle.std.specs.Prelude.{◌≡◌, ℕ, false, List, length, Result, IsTrue, IfOk, OnOk}
use Rattle.std.specs.Borrow.{MutBor}
use Rattle.std.specs.List.{AllZip}
use Rattle.sqlite_trees.specs.Tree.{Trees}
use Rattle.sqlite.specs.declared.error.Error.{Error}
use Rattle.sqlite.specs.Given.{IsPlain}
use Rattle.sqlite.specs.Listing.{understood}
use Rattle.sqlite.specs.State.{State, HasCleanDisk, Shown, Survives}
use Rattle.sqlite_value.specs.Order.{Row}
use Rattle.upd_text.specs.declared.card_ref.CardRef.{CardRef}
use Rattle.upd_records.specs.Changes.{status_rows}
use Rattle.upd_records.specs.Rows.{Rows}
use Rattle.upd_sqlite.specs.Steps.{Steps}
use Rattle.upd_sqlite.specs.Stored.{HasRows}
use Rattle.upd_sql.specs.Schema.{library_schema}
use Rattle.upd_sql.specs.Encoded.{stored}
use Rattle.upd_sql.specs.LibraryTables.{ShowsTables, HoldsTables}

-- trees that show these tables
abbrev pub ShowsIn : Trees → Rows → Type 0
ShowsIn trees rows = AllZip (HasRows trees) library_schema.tables (stored rows)

-- a statement returns how many rows are of a card's status
abbrev pub CountsStatuses : CardRef → State → State → Result ℕ Error → Type 0
CountsStatuses card old new r =
    HasCleanDisk new → IsTrue old.in_transaction → IfOk r (λ n. (it : Rows) → HoldsTables it old.now → n ≡ length (status_rows card it.states))

-- a statement of a transaction runs only while the connection is open
abbrev pub WasOpen : {X : Type 0} → State → State → Result X Error → Type 0
WasOpen old new r = HasCleanDisk new → OnOk r (IsTrue old.in_transaction → IsTrue old.is_open)

module _ (Fits : Rows → Type 0) (change : Rows → Rows) where
  -- A transaction was committed: tables that fit are changed.
  pub record Commits (old new : State) : Type 0 where
    pub was_open : IsTrue old.is_open
    pub is_open : IsTrue new.is_open
    pub shows : (rows : Rows) → ShowsTables rows old.committed → Fits rows → ShowsTables (change rows) new.committed

  -- what a crash may leave of it
  abbrev pub MayCommit : State → Trees → Type 0
  MayCommit old trees = IsTrue old.is_open × ((rows : Rows) → ShowsTables rows old.committed → Fits rows → ShowsIn trees (change rows))

-- what a crash may leave of a transaction that only read: what was committed before it, where the schema is the library's
abbrev pub MayKeep : State → Trees → Type 0
MayKeep old trees = IsTrue old.is_open × (old.committed.schema ≡ library_schema → trees ≡ old.committed.trees)

-- a statement that only reads leaves the tables of the transaction, where the schema is the library's
abbrev pub LeavesTables : {X : Type 0} → State → State → Result X Error → Type 0
LeavesTables old new r = HasCleanDisk new → OnOk r (old.now.schema ≡ library_schema → new.now ≡ old.now)

-- What statements of a transaction do that only read: they leave the tables, and what they find is so of these tables.
pub record Looks {X : Type 0} (Found : Rows → X → Type 0) (old new : State) (r : Result X Error) : Type 0 where
  pub steps : Steps old new r
  pub was_open : WasOpen old new r
  pub same : LeavesTables old new r
  pub found : HasCleanDisk new → IfOk r (λ x. (it : Rows) → HoldsTables it old.now → Found it x)

-- A query was answered, on an open connection. A plain one leaves the tables of the transaction.
pub record IsAnswered {X : Type 0} (items : X → List Row) (sql : List ℕ) (params : Row) (old new : State) (r : Result X Error) : Type 0 where
  pub steps : Steps old new r
  pub was_open : WasOpen old new r
  pub same : IsPlain (understood library_schema sql) → LeavesTables old new r
  pub shown : HasCleanDisk new → IfOk r (λ x. Shown sql params old new (items x))

-- A step inside a transaction, which stays that of its connection.
pub record Inside {C X : Type 0} (state : C → State) (Does : State → State → Result X Error → Type 0) (old new : MutBor C) (r : Result X Error) : Type 0 where
  pub same_reference : new.ghost_name ≡ old.ghost_name
  pub does : Does (state old.now) (state new.now) r

-- What a transaction that only reads does: where the schema is the library's it leaves the last commit, and what it finds is so of the tables of that commit.
pub record ReadsTables {X : Type 0} (Found : Rows → X → Type 0) (old new : State) (r : Result X Error) : Type 0 where
  pub outside : new.in_transaction ≡ false
  pub was_open : HasCleanDisk new → IsTrue new.is_open → IsTrue old.is_open
  pub opens : HasCleanDisk new → OnOk r (IsTrue old.is_open × IsTrue new.is_open)
  pub kept : HasCleanDisk new → IsTrue new.is_open → old.committed.schema ≡ library_schema → new.committed ≡ old.committed
  pub crash : Survives old new (MayKeep old)
  pub found : HasCleanDisk new → IfOk r (λ x. (it : Rows) → ShowsTables it old.committed → Found it x)
