use Rattle.std.proofs.Common.{drop}
use Rattle.upd_row_store.specs.Shifts.{Rises}
use Rattle.upd_row_store.proofs.pieces.are_rising.Given as goal

abbrev pub invariant-loop-m : goal.invariant-loop-m
invariant-loop-m l = Rises l.last (drop l.m-index l.moves) → Rises 0 l.moves
