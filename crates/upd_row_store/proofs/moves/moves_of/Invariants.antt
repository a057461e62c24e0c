use Rattle.std.proofs.Common.{◌≡◌, map, take}
use Rattle.upd_records.specs.Changes.{change_view}
use Rattle.upd_row_store.specs.Shifts.{as_change}
use Rattle.upd_row_store.proofs.moves.moves_of.Given as goal

abbrev pub invariant-loop-change : goal.invariant-loop-change
invariant-loop-change l = map change_view (take l.change-index l.changes) ≡ map (as_change l.deck) l.moves.items
