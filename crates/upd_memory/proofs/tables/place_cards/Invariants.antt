use Rattle.upd_memory.proofs.Common.{◌≡◌, List, map, take, drop, ◌++◌, AllByRecursion}
use Rattle.upd_row_store.specs.declared.moves.Move.{Move}
use Rattle.upd_row_store.specs.Shifts.{IsPiece, moved_all}
use Rattle.upd_memory.proofs.tables.place_cards.Given as goal

abbrev pub invariant-loop-row : goal.invariant-loop-row
invariant-loop-row l = (moves : List Move) → AllByRecursion (IsPiece moves) l.pieces
    → l.cards ≡ map (moved_all l.deck moves) (take l.row-index l.initial.cards) ++ drop l.row-index l.initial.cards
