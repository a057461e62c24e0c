use Rattle.upd_views.proofs.BlameLemmas.{one_column}
use Rattle.upd_views.proofs.deck_blame.texts_begin_in_one_column.Goals as goal

pub returns : goal.returns
returns c idents live deck card short few other = one_column idents live deck card short few other
