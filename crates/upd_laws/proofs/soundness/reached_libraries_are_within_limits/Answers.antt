use Rattle.upd_laws.proofs.Common.{refl, empty}
use Rattle.upd_laws.proofs.SoundLimitLemmas.{purged_within}
use Rattle.upd_laws.proofs.SoundRunLemmas.{run_within, runs_within}
use Rattle.upd_laws.proofs.soundness.reached_libraries_are_within_limits.Goals as goal

pub returns-clause-run : goal.returns-clause-run
returns-clause-run c = run_within

pub returns-clause-reached : goal.returns-clause-reached
returns-clause-reached c = λ runs. runs_within runs empty refl

pub returns-clause-purge : goal.returns-clause-purge
returns-clause-purge c = purged_within
