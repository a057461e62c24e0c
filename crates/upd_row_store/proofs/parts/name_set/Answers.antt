use Rattle.upd_row_store.proofs.Common.{◌≡◌, ap, arith, cond, is_eq, nat_cmp, refl, slice_cmp, subst, take_all, true, CardRow}
use Rattle.std.specs.BTreeSet as sorted
use Rattle.upd_text.specs.Units.{Bytes}
use Rattle.upd_row_store.proofs.NamedLemmas.{AreNamesOf, names_next}
use Rattle.upd_row_store.proofs.parts.name_set.Goals as goal

pub loop-row-init : goal.loop-row-init
loop-row-init c = λ k. rw c.new-set.ensures.empty refl

pub loop-row-preserved : goal.loop-row-preserved
loop-row-preserved c =
    let name : c.row.inside.card.name ≡ c.row-item.result.card.name = ap (λ (r : CardRow). r.card.name) c.row.view_is in
    names_next c.args.cards.now c.loop-row.row-index c.row-item.result c.loop-row-test.true c.row-item.is c.loop-row.set c.insert.new.self
    c.loop-row.invariant
    (subst (λ (n : Bytes). (k : Bytes) → sorted.contains (slice_cmp nat_cmp) c.insert.new.self k
    ≡ cond (is_eq (slice_cmp nat_cmp n k)) true (sorted.contains (slice_cmp nat_cmp) c.loop-row.set k)) name c.in_ok-insert.ensures.updates.0)

pub returns : goal.returns
returns c =
    let all = take_all c.loop-row.row-index c.args.cards.now (omega (arith, c.loop-row-test.false)) in
    subst (λ cs. AreNamesOf cs c.loop-row.set) all c.loop-row.invariant
