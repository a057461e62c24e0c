use Rattle.upd_partial.proofs.RenewLemmas.{renewed_in}
use Rattle.upd_partial.proofs.partial_updates.parts_renew_active_cards.Goals as goal

pub returns : goal.returns
returns c = renewed_in
