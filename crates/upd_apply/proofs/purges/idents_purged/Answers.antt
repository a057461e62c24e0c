use Rattle.upd_apply.proofs.Common.{◌≡◌, ap, sym, ◌∙◌, arith, Ok, Err, common_steps, ◌>>=◌, each_behind-none, each_more, each_refused, idents_in, range_idents}
use Rattle.upd_apply.proofs.purges.idents_purged.Goals as goal

pub loop-range-init : goal.loop-range-init
loop-range-init c = rw c.new-found.ensures.items (each_behind-none (range_idents c.args.library.now) c.args.ranges.now)

pub returns-in_err-ages : goal.returns-in_err-ages
returns-in_err-ages c =
    let refused : range_idents c.args.library.now c.range-item.result ≡ Err c.in_err-ages.field-0.0 =
    ap (λ r. r >>= (λ ages. Ok (idents_in ages c.args.library.now))) (sym c.ident_ages.ensures ∙ c.in_err-ages.was) in
    let whole = each_refused (range_idents c.args.library.now) c.args.ranges.now c.loop-range.range-index c.range-item.result _ _ _
    c.loop-range-test.true c.range-item.is refused c.loop-range.invariant in
    grind (arith, common_steps, whole)

pub loop-range-preserved : goal.loop-range-preserved
loop-range-preserved c =
    let gives : range_idents c.args.library.now c.range-item.result ≡ Ok (idents_in c.in_ok-ages.ages c.args.library.now) =
    ap (λ r. r >>= (λ ages. Ok (idents_in ages c.args.library.now))) (sym c.ident_ages.ensures ∙ c.in_ok-ages.was) in
    each_more (range_idents c.args.library.now) c.args.ranges.now c.loop-range.range-index c.range-item.result _ _ _ _
    c.loop-range-test.true c.range-item.is gives
    (rw c.idents.ensures at c.in_ok-add_idents.ensures) c.loop-range.invariant
