use Rattle.upd_core.proofs.StatusLaws.{live_yank-place_of}
use Rattle.upd_core.proofs.live.references_find_their_yank_cards.Goals as goal

pub returns : goal.returns
returns c = live_yank-place_of
