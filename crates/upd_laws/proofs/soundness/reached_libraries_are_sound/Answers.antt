use Rattle.upd_laws.proofs.soundness.reached_libraries_are_sound.Goals as goal
use Rattle.upd_laws.proofs.Common.{empty, after_runs, IsSound}
use Rattle.upd_laws.proofs.SoundRunLemmas.{empty_sound, runs_sound}

pub returns-clause-empty : goal.returns-clause-empty
returns-clause-empty c = empty_sound

pub returns-clause-sound : goal.returns-clause-sound
returns-clause-sound c = λ runs. runs_sound runs empty empty_sound

pub returns-clause-aged : goal.returns-clause-aged
returns-clause-aged c = λ runs. let sound : IsSound (after_runs runs empty) = runs_sound runs empty empty_sound in sound.yanks
