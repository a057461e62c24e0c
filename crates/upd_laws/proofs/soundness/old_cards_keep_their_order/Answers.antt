use Rattle.upd_laws.proofs.KeptCardLemmas.{run_keeps_cards}
use Rattle.upd_laws.proofs.soundness.old_cards_keep_their_order.Goals as goal

pub returns : goal.returns
returns c = run_keeps_cards
