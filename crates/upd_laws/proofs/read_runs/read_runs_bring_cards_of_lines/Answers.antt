use Rattle.upd_laws.proofs.Common.{empty}
use Rattle.upd_laws.proofs.ReadRunLemmas.{run_made, runs_made, empty_made, made_purged}
use Rattle.upd_laws.proofs.read_runs.read_runs_bring_cards_of_lines.Goals as goal

pub returns-clause-run : goal.returns-clause-run
returns-clause-run c = run_made

pub returns-clause-reached : goal.returns-clause-reached
returns-clause-reached c = λ runs read. runs_made runs empty read empty_made

pub returns-clause-purge : goal.returns-clause-purge
returns-clause-purge c = made_purged
