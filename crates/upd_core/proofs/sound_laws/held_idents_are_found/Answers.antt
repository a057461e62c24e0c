use Rattle.upd_core.proofs.FoundLemmas.{held_found}
use Rattle.upd_core.proofs.sound_laws.held_idents_are_found.Goals as goal

pub returns : goal.returns
returns c = held_found
