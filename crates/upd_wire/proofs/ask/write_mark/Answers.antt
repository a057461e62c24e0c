use Rattle.upd_wire.proofs.Common.{◌++◌, ap₂, ◌∙◌}
use Rattle.upd_wire.proofs.AnswerHeadLemmas.{mark_text}
use Rattle.upd_wire.proofs.ask.write_mark.Goals as goal

pub returns : goal.returns
returns c = λ is.
    c.put_all.ensures ∙ ap₂ (λ a b. a ++ b) c.requires.empty c.settled_parts.ensures.text ∙ mark_text c.args.site.now c.args.mark is
