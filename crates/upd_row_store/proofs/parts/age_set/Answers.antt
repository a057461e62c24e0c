use Rattle.upd_row_store.proofs.Common.{arith, refl, subst, take_all}
use Rattle.upd_row_store.proofs.PartRowLemmas.{AreAges, ages_next}
use Rattle.upd_row_store.proofs.parts.age_set.Goals as goal

pub loop-age-init : goal.loop-age-init
loop-age-init c = λ k. rw c.new-set.ensures.empty refl

pub loop-age-preserved : goal.loop-age-preserved
loop-age-preserved c =
    ages_next c.args.ages.now c.loop-age.age-index c.loop-age-test.true c.loop-age.set c.insert.new.self c.loop-age.invariant c.in_ok-insert.ensures.updates.0

pub returns : goal.returns
returns c =
    let all = take_all c.loop-age.age-index c.args.ages.now (omega (arith, c.loop-age-test.false)) in
    subst (λ xs. AreAges xs c.loop-age.set) all c.loop-age.invariant
