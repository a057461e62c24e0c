use Rattle.upd_row_store.proofs.Common.{◌==◌, ◌||◌, Bool, rules, filter_same, nat_cmp, CardRow}
use Rattle.std.specs.BTreeSet as sorted
use Rattle.upd_row_store.proofs.parts.keep_cards.Goals as goal

pub returns : goal.returns
returns c =
    let stays : CardRow → Bool = λ r. (r.deck == 0) || sorted.contains nat_cmp c.args.ages.now r.deck in
    filter_same _ stays _ (λ x b f k. search rules) _ _ c.retain.ensures.filtered
