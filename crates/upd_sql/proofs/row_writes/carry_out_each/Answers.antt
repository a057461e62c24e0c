use Rattle.upd_sql.proofs.Common.{List, map, option_copied, take, Ok, sym, subst, ◌∙◌, state, ChangeView, done_all, change_view, Makes, AllCanBeDone}
use Rattle.upd_sql.proofs.Common.{HoldsTables}
use Rattle.upd_sql.proofs.TogetherLemmas.{one_made, seen_more}
use Rattle.upd_sql.proofs.row_writes.carry_out_each.Goals as goal

pub loop-change-preserved : goal.loop-change-preserved
loop-change-preserved g c =
    let old = state g.S.Store c.args.tx.now.conn.now in
    let new = state g.S.Store c.carry_out_listed.new.tx.conn.now in
    let movable = option_copied c.args.movable in
    let before = map change_view (take c.loop-change.change-index c.args.changes.now) in
    let more = seen_more c.args.changes.now c.loop-change.change-index c.change-item.result c.loop-change-test.true c.change-item.is in
    let made = one_made movable before (change_view c.change-item.result) c.loop-change.invariant.1 c.in_ok-carry_out_listed.ensures.does in (
      c.in_ok-carry_out_listed.ensures.same_reference ∙ c.loop-change.invariant.0,
      subst (λ (cs : List ChangeView). Makes {X = Unit {0}} HoldsTables (AllCanBeDone movable cs) (done_all cs) old new (Ok tt)) (sym more) made,
    )
