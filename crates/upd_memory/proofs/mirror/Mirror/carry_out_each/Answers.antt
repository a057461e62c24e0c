use Rattle.upd_memory.proofs.Common.{refl, sym, ap, ◌∙◌, subst, map, arith, change_view, done, done_all, Agrees}
use Rattle.std.proofs.lemmas.List.{drop_all}
use Rattle.upd_memory.proofs.MirrorLemmas.{next_change}
use Rattle.upd_memory.proofs.mirror.Mirror.carry_out_each.Goals as goal

pub loop-change-init : goal.loop-change-init
loop-change-init c = λ rows are. (rows, (are, refl))

pub loop-change-preserved : goal.loop-change-preserved
loop-change-preserved c = λ rows are.
    let now = c.loop-change.invariant rows are in
    let mid = now.0 in
    let change = c.change-item.result in
    let next = next_change c.args.changes.now c.loop-change.change-index _ change mid c.loop-change-test.true c.change-item.is in
    (done (change_view change) mid, (c.in_ok-carry_out.ensures mid now.1.0, next ∙ now.1.1))

pub returns : goal.returns
returns c = λ rows are.
    let now = c.loop-change.invariant rows are in
    let left = drop_all c.loop-change.change-index c.args.changes.now (omega (arith, c.loop-change-test.false)) in
    subst (Agrees c.loop-change.self) (sym (ap (λ cs. done_all (map change_view cs) now.0) left) ∙ now.1.1) now.1.0
