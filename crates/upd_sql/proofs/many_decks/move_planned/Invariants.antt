use Rattle.upd_sql.proofs.Common.{◌≡◌, take, Ok, state, Makes, HoldsTables}
use Rattle.upd_sql.specs.ManyDecks.{AllCanPlan, with_plans}
use Rattle.upd_sql.proofs.many_decks.move_planned.Given as goal

abbrev pub invariant-loop-plan : goal.invariant-loop-plan
invariant-loop-plan g l =
    (l.tx.conn.ghost_name ≡ l.initial.tx.conn.ghost_name)
    × Makes {X = Unit {0}} HoldsTables (AllCanPlan (take l.plan-index l.plans)) (with_plans (take l.plan-index l.plans))
    (state g.S.Store l.initial.tx.conn.now) (state g.S.Store l.tx.conn.now) (Ok tt)
