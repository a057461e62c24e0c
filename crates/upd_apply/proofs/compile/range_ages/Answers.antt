use Rattle.upd_apply.proofs.Common.{◌≡◌, [], ◌∷◌, ap, sym, ◌∙◌, arith, Ok, Err, common_steps, ◌>>=◌, each_behind-none, each_refused, range_ages}
use Rattle.upd_apply.proofs.compile.range_ages.Goals as goal

pub loop-range-init : goal.loop-range-init
loop-range-init c = rw c.new-found.ensures.items (each_behind-none (range_ages c.args.library.now) c.args.ranges.now)

pub returns-in_err-ages : goal.returns-in_err-ages
returns-in_err-ages c =
    let refused : range_ages c.args.library.now c.range-item.result ≡ Err c.in_err-ages.field-0.0 =
    ap (λ r. r >>= (λ ages. Ok (ages ∷ []))) (sym c.deck_ages.ensures ∙ c.in_err-ages.was) in
    let whole = each_refused (range_ages c.args.library.now) c.args.ranges.now c.loop-range.range-index c.range-item.result _ _ _
    c.loop-range-test.true c.range-item.is refused c.loop-range.invariant in
    grind (arith, common_steps, whole)
