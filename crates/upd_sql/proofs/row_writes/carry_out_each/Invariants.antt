use Rattle.upd_sql.proofs.Common.{◌≡◌, map, option_copied, take, Ok, state, done_all, change_view, Makes, AllCanBeDone, HoldsTables}
use Rattle.upd_sql.proofs.row_writes.carry_out_each.Given as goal

abbrev pub invariant-loop-change : goal.invariant-loop-change
invariant-loop-change g l =
    (l.tx.conn.ghost_name ≡ l.initial.tx.conn.ghost_name)
    × Makes {X = Unit {0}} HoldsTables (AllCanBeDone (option_copied l.movable) (map change_view (take l.change-index l.changes)))
    (done_all (map change_view (take l.change-index l.changes))) (state g.S.Store l.initial.tx.conn.now) (state g.S.Store l.tx.conn.now) (Ok tt)
