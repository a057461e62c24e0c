use Rattle.upd_laws.proofs.soundness.lines_keep_states_sound.Goals as goal
use Rattle.upd_laws.proofs.SoundRunLemmas.{started_sound, step_sound, steps_sound}

pub returns-clause-started : goal.returns-clause-started
returns-clause-started c = started_sound

pub returns-clause-kept : goal.returns-clause-kept
returns-clause-kept c = step_sound

pub returns-clause-all : goal.returns-clause-all
returns-clause-all c = steps_sound
