use Rattle.upd_apply.proofs.Common.{◌≡◌, arith, Err, common_steps, each_behind-none, each_refused, pair_ages}
use Rattle.upd_apply.proofs.purges.pairs_purged.Goals as goal

pub loop-pair-init : goal.loop-pair-init
loop-pair-init c = rw c.new-found.ensures.items (each_behind-none (pair_ages c.args.library.now) c.args.pairs.now)

pub returns-in_err-ages : goal.returns-in_err-ages
returns-in_err-ages c =
    let refused : pair_ages c.args.library.now c.pair-item.result ≡ Err c.in_err-ages.field-0.0 = grind (arith, common_steps) in
    let whole = each_refused (pair_ages c.args.library.now) c.args.pairs.now c.loop-pair.pair-index c.pair-item.result _ _ _
    c.loop-pair-test.true c.pair-item.is refused c.loop-pair.invariant in
    grind (arith, common_steps, whole)
