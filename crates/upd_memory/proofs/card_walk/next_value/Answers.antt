use Rattle.upd_memory.proofs.Common.{◌∙◌, subst, sym, Included, Unbounded, AreFound}
use Rattle.upd_memory.proofs.WalkLemmas.{found_later, range_first, range_found}
use Rattle.upd_memory.proofs.card_walk.next_value.Goals as goal

pub returns-clause-value : goal.returns-clause-value
returns-clause-value g c = c.taken-2.ensures.first
    ∙ range_first c.args.values.now c.args.card.now c.range.result (c.range.ensures.in_range tt)

pub returns-clause-rest : goal.returns-clause-rest
returns-clause-rest g c =
    let values = c.args.values.now in
    subst (AreFound values) (sym c.taken-2.ensures.rest)
    (found_later values c.range.result
    (range_found values (Included c.args.card.now) Unbounded c.range.result (c.range.ensures.in_range tt)))
