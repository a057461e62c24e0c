use Rattle.upd_laws.proofs.soundness.runs_keep_libraries_sound.Goals as goal
use Rattle.upd_laws.proofs.SoundEditLemmas.{purged_sound}
use Rattle.upd_laws.proofs.SoundRunLemmas.{run_sound, run_whole}

pub returns-clause-run : goal.returns-clause-run
returns-clause-run c = run_sound

pub returns-clause-whole : goal.returns-clause-whole
returns-clause-whole c = run_whole

pub returns-clause-purge : goal.returns-clause-purge
returns-clause-purge c = purged_sound
