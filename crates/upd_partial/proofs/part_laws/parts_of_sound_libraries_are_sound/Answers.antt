use Rattle.upd_partial.proofs.PartSoundLemmas.{part_sound}
use Rattle.upd_partial.proofs.part_laws.parts_of_sound_libraries_are_sound.Goals as goal

pub returns : goal.returns
returns c = part_sound
