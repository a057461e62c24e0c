use Rattle.upd_laws.proofs.soundness.directories_go_on.Goals as goal
use Rattle.upd_apply.proofs.DirectoryLemmas.{continues_unheld, step_goes}
use Rattle.upd_laws.proofs.SoundRunLemmas.{run_goes, runs_go}

pub returns-clause-line : goal.returns-clause-line
returns-clause-line c = step_goes

pub returns-clause-run : goal.returns-clause-run
returns-clause-run c = run_goes

pub returns-clause-runs : goal.returns-clause-runs
returns-clause-runs c = runs_go

pub returns-clause-purge : goal.returns-clause-purge
returns-clause-purge c = λ gone l. continues_unheld gone l.idents
