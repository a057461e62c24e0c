use Rattle.upd_desk.proofs.MadeLemmas.{outcome_made, library_made}
use Rattle.upd_desk.proofs.desk_laws.libraries_are_as_runs_make_them.Goals as goal

pub returns-clause-library_after : goal.returns-clause-library_after
returns-clause-library_after c = library_made

pub returns-clause-outcome : goal.returns-clause-outcome
returns-clause-outcome c = outcome_made
