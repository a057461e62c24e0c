use Rattle.upd_row_store.proofs.Common.{◌≡◌, ap, arith, by_name, cond, is_eq, refl, subst, take_all, true, CardRef, CardRow}
use Rattle.std.specs.BTreeSet as sorted
use Rattle.upd_row_store.proofs.PartRowLemmas.{AreCardsOf, cards_next}
use Rattle.upd_row_store.proofs.parts.row_set.Goals as goal

pub loop-row-init : goal.loop-row-init
loop-row-init c = λ k. rw c.new-set.ensures.empty refl

pub loop-row-preserved : goal.loop-row-preserved
loop-row-preserved c =
    let card : c.row.inside.card ≡ c.row-item.result.card = ap (λ (r : CardRow). r.card) c.row.view_is in
    cards_next c.args.cards.now c.loop-row.row-index c.row-item.result c.loop-row-test.true c.row-item.is c.loop-row.set c.insert.new.self
    c.loop-row.invariant
    (subst (λ (n : CardRef). (k : CardRef) → sorted.contains by_name c.insert.new.self k
    ≡ cond (is_eq (by_name n k)) true (sorted.contains by_name c.loop-row.set k)) card c.in_ok-insert.ensures.updates.0)

pub returns : goal.returns
returns c =
    let all = take_all c.loop-row.row-index c.args.cards.now (omega (arith, c.loop-row-test.false)) in
    subst (λ cs. AreCardsOf cs c.loop-row.set) all c.loop-row.invariant
