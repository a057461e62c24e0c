use Rattle.upd_partial.proofs.StayLemmas.{status_stays}
use Rattle.upd_partial.proofs.part_laws.untouched_cards_keep_their_status.Goals as goal

pub returns : goal.returns
returns c = status_stays
