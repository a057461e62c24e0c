-- Each way out of a settlement is what is expected for it.
use Rattle.upd_desk.proofs.Common.{sym, keeps_still}
use Rattle.upd_desk.proofs.RefusedLemmas.{error_is}
use Rattle.upd_desk.proofs.SettlesLemmas.{loses_key, refuses_key, settles_then, tells_mark}
use Rattle.upd_desk.proofs.desk.Desk.settle_site.Goals as goal

pub returns-in_err-check_key-clause-settles : goal.returns-in_err-check_key-clause-settles
returns-in_err-check_key-clause-settles g c =
    rw (error_is _ _ c.from_residual.ensures.1)
    (refuses_key c.args.site.now c.args.number c.in_err-check_key.field-0.0 c.args.self.now.store c.args.self.now.store
    (keeps_still c.args.self.now.store) (sym c.in_err-check_key.ensures))

pub returns-in_err-mark-clause-settles : goal.returns-in_err-mark-clause-settles
returns-in_err-mark-clause-settles g c =
    rw (error_is _ _ c.from_residual-in_err-mark.ensures.1)
    (loses_key c.args.site.now c.args.number c.in_err-mark.field-0.0 c.args.self.now.store c.mark.new.self
    c.in_err-mark.ensures.leaves.same c.in_err-mark.ensures.leaves.lost)

pub returns-then-number-mark-clause-settles : goal.returns-then-number-mark-clause-settles
returns-then-number-mark-clause-settles g c =
    tells_mark g.met.S.RowStore.leaves_image c.args.site.now c.args.number c.in_ok-mark.mark c.args.self.now.store c.mark.new.self
    c.in_ok-mark.ensures.leaves.same c.in_ok-mark.ensures.leaves.opens (sym c.in_ok-check_key.ensures) c.in_ok-mark.ensures.found c.if-number-mark.true

pub returns-clause-settles : goal.returns-clause-settles
returns-clause-settles g c =
    settles_then g.met.S.RowStore.leaves_image c.args.site.now c.args.number c.in_ok-mark.mark c.settle_to.result c.args.self.now.store c.mark.new.self
    c.settle_to.new.self c.in_ok-mark.ensures.leaves.same c.in_ok-mark.ensures.found c.if-number-mark.false (sym c.in_ok-check_key.ensures)
    c.settle_to.ensures.leaves c.settle_to.ensures.done
