use Rattle.upd_apply.proofs.Common.{ap, ◌∙◌}
use Rattle.upd_apply.proofs.DirectoryLemmas.{goes_on_from}
use Rattle.upd_apply.proofs.applying.reach.Goals as goal

pub returns-clause-continues : goal.returns-clause-continues
returns-clause-continues c =
    let same = ap (λ s. s.library.idents) c.new-state.ensures ∙ ap (λ l. l.idents) c.in_ok-copy.ensures.ok in
    goes_on_from c.args.library.now c.lines.result.now c.new-state.result c.take_steps.new.state same c.in_ok-take_steps.ensures
