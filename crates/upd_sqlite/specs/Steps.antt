-- What the statements of one transaction do, one after another.
use Rattle.std.specs.Prelude.{List, Result, Ok, IsTrue, OnOk, ℕ}
use Rattle.sqlite_value.specs.Order.{Row}
use Rattle.sqlite.specs.declared.error.Error.{Error}
use Rattle.sqlite.specs.Effect.{Database}
use Rattle.sqlite.specs.State.{State, HasCleanDisk, KeepsCommit, Survives, Executes}

-- A step inside a transaction: nothing is committed, and after a success the transaction continues.
pub record Steps {X : Type 0} (old new : State) (r : Result X Error) : Type 0 where
  pub going : HasCleanDisk new → OnOk r (IsTrue old.in_transaction → IsTrue new.in_transaction)
  pub kept : HasCleanDisk new → IsTrue old.in_transaction → KeepsCommit old new
  pub survives : Survives old new (λ _. ⊥)

-- a statement that was run
pub record Ran {X : Type 0} (sql : List ℕ) (params : Row) (old new : State) (r : Result X Error) : Type 0 where
  pub steps : Steps old new r
  pub was_open : HasCleanDisk new → OnOk r (IsTrue old.in_transaction → IsTrue old.is_open)
  pub executed : HasCleanDisk new → OnOk r (IsTrue old.in_transaction → (count : ℕ) × Executes sql params old new (Ok count))

-- A step of tables that are known by a relation: those that the database has and that fit are changed.
pub record Makes {A X : Type 0} (Has : A → Database → Type 0) (Fits : A → Type 0) (change : A → A) (old new : State) (r : Result X Error) : Type 0 where
  pub steps : Steps old new r
  pub made : HasCleanDisk new → OnOk r (IsTrue old.in_transaction → (it : A) → Fits it → Has it old.now → Has (change it) new.now)
