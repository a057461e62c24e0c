use Rattle.upd_yank.proofs.ReachLemmas.{reached_by, reached_from}
use Rattle.upd_yank.proofs.laws.what_flipped_covers_is_reached.Goals as goal

pub returns : goal.returns
returns c = λ before now d card. (reached_from before now d card, λ t. reached_by before now d card t.0 t.1 t.2)
