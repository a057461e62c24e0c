use Rattle.upd_laws.proofs.soundness.text_inside_has_a_set_in_hand.Goals as goal
use Rattle.upd_laws.proofs.SoundRunLemmas.{place_in_hand, refused_nowhere}

pub returns-clause-in_hand : goal.returns-clause-in_hand
returns-clause-in_hand c = place_in_hand

pub returns-clause-nowhere : goal.returns-clause-nowhere
returns-clause-nowhere c = refused_nowhere
