use Rattle.std.proofs.Common.{List, drop}
use Rattle.std.specs.List.{AllByRecursion}
use Rattle.upd_row_store.specs.declared.moves.Move.{Move}
use Rattle.upd_row_store.specs.Shifts.{IsPiece, IsRight}
use Rattle.upd_row_store.proofs.right.are_right.Given as goal

abbrev pub invariant-loop-row : goal.invariant-loop-row
invariant-loop-row l = (moves : List Move) → AllByRecursion (IsPiece moves) l.pieces
    → AllByRecursion (IsRight l.deck l.from moves l.shifts) (drop l.row-index l.rows)
    → AllByRecursion (IsRight l.deck l.from moves l.shifts) l.rows
