use Rattle.upd_edit.proofs.Common.{◌∙◌, List, ap}
use Rattle.upd_core.specs.declared.target.Target.{Target}
use Rattle.upd_core.specs.Status.{is_active}
use Rattle.upd_edit.specs.Conflicts.{SeenView, was_then}
use Rattle.upd_edit.proofs.meeting.Seen.was_then.Goals as goal

pub returns : goal.returns
returns c =
    c.is_active.ensures ∙ ap (λ (live : List Target). is_active live c.args.deck c.args.card.now) c.self.invariant.1
    ∙ ap (λ (s : SeenView). was_then s c.args.deck c.args.card.now) c.self.view_is
