use Rattle.upd_partial.proofs.AppliedLemmas.{applied_left}
use Rattle.upd_partial.proofs.StayLemmas.{yanks_stay}
use Rattle.upd_partial.proofs.part_laws.other_decks_stay.Goals as goal

pub returns-clause-decks : goal.returns-clause-decks
returns-clause-decks c = applied_left

pub returns-clause-yanks : goal.returns-clause-yanks
returns-clause-yanks c = yanks_stay
