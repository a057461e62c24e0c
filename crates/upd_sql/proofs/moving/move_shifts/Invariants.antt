use Rattle.upd_sql.proofs.Common.{◌≡◌, take, Ok, state, Makes, HoldsTables}
use Rattle.upd_sql.specs.Moving.{AllCanShift, with_all_shifted}
use Rattle.upd_sql.proofs.moving.move_shifts.Given as goal

abbrev pub invariant-loop-shift : goal.invariant-loop-shift
invariant-loop-shift g l =
    (l.tx.conn.ghost_name ≡ l.initial.tx.conn.ghost_name)
    × Makes {X = Unit {0}} HoldsTables (AllCanShift l.deck l.from (take l.shift-index l.shifts)) (with_all_shifted l.deck l.from (take l.shift-index l.shifts))
    (state g.S.Store l.initial.tx.conn.now) (state g.S.Store l.tx.conn.now) (Ok tt)
