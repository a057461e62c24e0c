use Rattle.upd_core.proofs.Common.{Bool, not, rules, filter_same, CardView, is_gone}
use Rattle.upd_core.proofs.gone.drop_cards.Goals as goal

pub returns : goal.returns
returns c =
    let stays : CardView → Bool = λ x. not (is_gone c.args.gone.now x.ident) in
    filter_same _ stays _ (λ x b f k. search rules) _ _ c.retain.ensures.filtered
