use Rattle.upd_yank.proofs.KeptLemmas.{untouched_status}
use Rattle.upd_yank.proofs.laws.untouched_cards_stood.Goals as goal

pub returns : goal.returns
returns c = untouched_status
