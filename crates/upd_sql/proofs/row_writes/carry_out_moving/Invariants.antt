use Rattle.upd_sql.proofs.Common.{◌≡◌, ◌-◌, length, map, option_copied, take, Ok, state, done_all, change_view, Makes, AllCanBeDone, HoldsTables}
use Rattle.std.proofs.Common.{◌≤◌}
use Rattle.upd_sql.proofs.row_writes.carry_out_moving.Given as goal

abbrev pub invariant-loop-at : goal.invariant-loop-at
invariant-loop-at g l =
    (l.at ≤ length l.changes)
    × (l.tx.conn.ghost_name ≡ l.initial.tx.conn.ghost_name)
    × Makes {X = Unit {0}} HoldsTables (AllCanBeDone (option_copied l.movable) (map change_view (take l.at l.changes)))
    (done_all (map change_view (take l.at l.changes))) (state g.S.Store l.initial.tx.conn.now) (state g.S.Store l.tx.conn.now) (Ok tt)

abbrev pub decreases-loop-at : goal.decreases-loop-at
decreases-loop-at g l = length l.changes - l.at
