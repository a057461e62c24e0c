use Rattle.std.proofs.Common.{ℕ, drop}
use Rattle.std.specs.List.{AllByRecursion}
use Rattle.upd_row_store.specs.Shifts.{IsPiece, Reaches, Rises}
use Rattle.upd_row_store.proofs.pieces.pieces_of.Given as goal

abbrev pub invariant-loop-m : goal.invariant-loop-m
invariant-loop-m l =
    (floor : ℕ) × (Rises floor (drop l.m-index l.moves) × Reaches l.moves (drop l.m-index l.moves) l.last × AllByRecursion (IsPiece l.moves) l.pieces.items)
