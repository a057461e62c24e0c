use Rattle.upd_sql.proofs.Common.{◌≡◌, take, Ok, state, Makes, AnyTables, HoldsTables}
use Rattle.upd_row_store.specs.Ranges.{in_ranges, without_rows}
use Rattle.upd_sql.proofs.removing.remove_ranges.Given as goal

abbrev pub invariant-loop-range : goal.invariant-loop-range
invariant-loop-range g l =
    (l.tx.conn.ghost_name ≡ l.initial.tx.conn.ghost_name)
    × Makes {X = Unit {0}} HoldsTables AnyTables (without_rows l.which (in_ranges (take l.range-index l.ranges))) (state g.S.Store l.initial.tx.conn.now)
    (state g.S.Store l.tx.conn.now) (Ok tt)
