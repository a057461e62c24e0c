use Rattle.upd_core.proofs.WellFoundedLemmas.{solves, only}
use Rattle.upd_core.proofs.status_laws.liveness_is_well_founded.Goals as goal

pub returns-clause-solves : goal.returns-clause-solves
returns-clause-solves c = solves

pub returns-clause-only : goal.returns-clause-only
returns-clause-only c = only
