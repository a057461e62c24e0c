-- Moves of a deck's cards that are made at once.
use Rattle.std.specs.Prelude.{ℕ, List, [], ◌∷◌, IfOk, Bool, true, false, Result, IsTrue}
use Rattle.std.specs.List.{AllByRecursion}
use Rattle.sqlite.specs.declared.error.Error.{Error}
use Rattle.sqlite.specs.State.{State, HasCleanDisk}
use Rattle.upd_records.specs.Rows.{Rows}
use Rattle.upd_row_store.specs.declared.moves.Move.{Move}
use Rattle.upd_row_store.specs.declared.shift.Shift.{Shift}
use Rattle.upd_row_store.specs.Shifts.{CanShift, IsRight, with_shifted}
use Rattle.upd_sqlite.specs.Steps.{Steps}
use Rattle.upd_sql.specs.LibraryTables.{HoldsTables}

-- the tables after shifts in order
abbrev pub with_all_shifted : ℕ → ℕ → List Shift → Rows → Rows
with_all_shifted deck from [] rows = rows
with_all_shifted deck from (s ∷ ss) rows = with_all_shifted deck from ss (with_shifted deck from s rows)

-- each shift can be made in the tables that those before it leave
abbrev pub AllCanShift : ℕ → ℕ → List Shift → Rows → Type 0
AllCanShift deck from [] rows = Unit {0}
AllCanShift deck from (s ∷ ss) rows = CanShift deck from s rows × AllCanShift deck from ss (with_shifted deck from s rows)

-- shifts do to each row what moves do
abbrev pub AllRight : ℕ → ℕ → List Move → List Shift → Rows → Type 0
AllRight deck from ms ss rows = AllByRecursion (IsRight deck from ms ss) rows.cards

-- the tables are changed where the answer is true, and else left
abbrev pub changed_if : Bool → (Rows → Rows) → Rows → Rows
changed_if true change rows = change rows
changed_if false change rows = rows

-- A step that may be made: where it is answered that it is, tables are changed; else they stay.
pub record MakesIf (change : Rows → Rows) (old new : State) (r : Result Bool Error) : Type 0 where
  pub steps : Steps old new r
  pub made : HasCleanDisk new → IfOk r (λ done. IsTrue old.in_transaction → (it : Rows) → HoldsTables it old.now
      → HoldsTables (changed_if done change it) new.now)
