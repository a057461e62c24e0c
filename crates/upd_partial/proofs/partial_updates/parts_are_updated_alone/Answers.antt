use Rattle.upd_partial.proofs.AloneLemmas.{affected_in, enough_alone}
use Rattle.upd_partial.proofs.PartLeadLemmas.{part_leads}
use Rattle.upd_partial.proofs.RenewLemmas.{renewed_alone}
use Rattle.upd_partial.proofs.partial_updates.parts_are_updated_alone.Goals as goal

pub returns-clause-enough : goal.returns-clause-enough
returns-clause-enough c = enough_alone

pub returns-clause-affected : goal.returns-clause-affected
returns-clause-affected c = affected_in

pub returns-clause-states : goal.returns-clause-states
returns-clause-states c out lines l reached run updates yanks sound does no_yank is =
    part_leads out lines l reached yanks sound does no_yank is run updates

pub returns-clause-renews : goal.returns-clause-renews
returns-clause-renews c = renewed_alone
