use Rattle.upd_apply.proofs.Common.{◌≡◌, ap, sym, ◌∙◌, arith, Ok, Err, common_steps, ◌>>=◌, each_behind-none, each_more, each_refused, range_decks}
use Rattle.upd_apply.specs.Names.{decks_in}
use Rattle.upd_apply.proofs.purges.decks_purged.Goals as goal

pub loop-range-init : goal.loop-range-init
loop-range-init c = rw c.new-found.ensures.items (each_behind-none (range_decks c.args.library.now) c.args.ranges.now)

pub returns-in_err-ages : goal.returns-in_err-ages
returns-in_err-ages c =
    let refused : range_decks c.args.library.now c.range-item.result ≡ Err c.in_err-ages.field-0.0 =
    ap (λ r. r >>= (λ ages. Ok (decks_in ages c.args.library.now))) (sym c.deck_ages.ensures ∙ c.in_err-ages.was) in
    let whole = each_refused (range_decks c.args.library.now) c.args.ranges.now c.loop-range.range-index c.range-item.result _ _ _
    c.loop-range-test.true c.range-item.is refused c.loop-range.invariant in
    grind (arith, common_steps, whole)

pub loop-range-preserved : goal.loop-range-preserved
loop-range-preserved c =
    let gives : range_decks c.args.library.now c.range-item.result ≡ Ok (decks_in c.in_ok-ages.ages c.args.library.now) =
    ap (λ r. r >>= (λ ages. Ok (decks_in ages c.args.library.now))) (sym c.deck_ages.ensures ∙ c.in_ok-ages.was) in
    each_more (range_decks c.args.library.now) c.args.ranges.now c.loop-range.range-index c.range-item.result _ _ _ _
    c.loop-range-test.true c.range-item.is gives
    (rw c.idents.ensures at c.in_ok-add_decks.ensures) c.loop-range.invariant
