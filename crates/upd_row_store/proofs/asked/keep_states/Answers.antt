use Rattle.upd_row_store.proofs.Common.{Bool, rules, filter_same, by_name, CardRef}
use Rattle.std.specs.BTreeSet as sorted
use Rattle.upd_row_store.proofs.asked.keep_states.Goals as goal

pub returns : goal.returns
returns c =
    let stays : CardRef × Bool → Bool = λ p. sorted.contains by_name c.args.cards.now p.0 in
    filter_same _ stays _ (λ x b f k. search rules) _ _ c.retain.ensures.filtered
