use Rattle.upd_sql.proofs.Common.{arith, state, HasCleanDisk}
use Rattle.upd_sql.proofs.MarkLemmas.{mark_rises_to}
use Rattle.upd_sql.proofs.settle.settle_in.Goals as goal

pub returns-clause-mark : goal.returns-clause-mark
returns-clause-mark g c clean =
    let mid = state g.S.Store c.mark_in.new.tx.conn.now in
    let early : HasCleanDisk mid = omega (arith, clean, c.set_mark.ensures.does.steps.survives.clean) in
    λ it h. mark_rises_to c.args.site.now c.args.number c.in_ok-mark.mark it c.if-number-mark.false (c.in_ok-mark.ensures.does.found early it h)
