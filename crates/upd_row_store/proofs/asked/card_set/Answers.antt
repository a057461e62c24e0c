use Rattle.upd_row_store.proofs.Common.{arith, refl, subst, take_all}
use Rattle.upd_row_store.proofs.AskedLemmas.{IsSetOf, set_next}
use Rattle.upd_row_store.proofs.asked.card_set.Goals as goal

pub loop-card-init : goal.loop-card-init
loop-card-init c = λ k. rw c.new-set.ensures.empty refl

pub loop-card-preserved : goal.loop-card-preserved
loop-card-preserved c =
    set_next c.args.cards.now c.loop-card.card-index c.card-item.result c.loop-card-test.true c.card-item.is c.loop-card.set c.insert.new.self
    c.loop-card.invariant
    c.in_ok-insert.ensures.updates.0

pub returns : goal.returns
returns c =
    let all = take_all c.loop-card.card-index c.args.cards.now (omega (arith, c.loop-card-test.false)) in
    subst (λ cs. IsSetOf cs c.loop-card.set) all c.loop-card.invariant
