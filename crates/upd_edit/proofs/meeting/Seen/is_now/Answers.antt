use Rattle.upd_edit.proofs.Common.{◌∙◌, ap}
use Rattle.upd_core.specs.Status.{LiveView, is_active}
use Rattle.upd_edit.specs.Conflicts.{SeenView, is_now}
use Rattle.upd_edit.proofs.meeting.Seen.is_now.Goals as goal

pub returns : goal.returns
returns c =
    c.is_active.ensures ∙ ap (λ (v : LiveView). is_active v.targets c.args.deck c.args.card.now) c.self.invariant.0
    ∙ ap (λ (s : SeenView). is_now s c.args.deck c.args.card.now) c.self.view_is
