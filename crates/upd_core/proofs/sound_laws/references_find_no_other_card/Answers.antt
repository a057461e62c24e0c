use Rattle.upd_core.proofs.FoundLemmas.{card_of_place, one_card, refs_apart}
use Rattle.upd_core.proofs.sound_laws.references_find_no_other_card.Goals as goal

pub returns-clause-own : goal.returns-clause-own
returns-clause-own c = card_of_place

pub returns-clause-one : goal.returns-clause-one
returns-clause-one c = one_card

pub returns-clause-apart : goal.returns-clause-apart
returns-clause-apart c = refs_apart
