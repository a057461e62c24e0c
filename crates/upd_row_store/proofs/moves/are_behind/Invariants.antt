use Rattle.std.proofs.Common.{◌≤◌, drop}
use Rattle.std.specs.List.{AllByRecursion}
use Rattle.upd_row_store.proofs.moves.are_behind.Given as goal

abbrev pub invariant-loop-m : goal.invariant-loop-m
invariant-loop-m l = AllByRecursion (λ m. l.from ≤ m.from) (drop l.m-index l.moves) → AllByRecursion (λ m. l.from ≤ m.from) l.moves
