use Rattle.upd_memory.proofs.Common.{Bool, not, rules, filter_same, CardRow}
use Rattle.upd_memory.specs.RowsByKey.{is_in}
use Rattle.upd_memory.proofs.card_sets.drop_set.Goals as goal

pub returns : goal.returns
returns c =
    let stays : CardRow → Bool = λ x. not (is_in c.args.set.now x.card) in
    filter_same _ stays _ (λ x b f k. search rules) _ _ c.retain.ensures.filtered
