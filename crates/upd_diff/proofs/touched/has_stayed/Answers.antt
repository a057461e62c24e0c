use Rattle.upd_diff.proofs.Common.{ap, ◌∙◌, CardView, same_history}
use Rattle.upd_diff.proofs.TouchedLemmas.{stayed}
use Rattle.upd_diff.proofs.touched.has_stayed.Goals as goal

pub returns-then-sure : goal.returns-then-sure
returns-then-sure c = λ apart inside kept.
    c.is_same_history.ensures
    ∙ ap (λ h. same_history h c.deref-then-sure.result.now) (c.deref.ensures.value ∙ ap (λ (d : CardView). d.history) c.was.view_is)
    ∙ ap (same_history c.args.was.now.history) (c.deref-then-sure.ensures.value ∙ ap (λ (d : CardView). d.history) c.is.view_is)
    ∙ stayed c.args.before.now c.args.was.now c.args.is.now apart (inside c.if-sure.true) kept
