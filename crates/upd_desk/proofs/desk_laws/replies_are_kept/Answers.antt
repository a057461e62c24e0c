use Rattle.upd_desk.proofs.LawLemmas.{others_kept, reply_kept}
use Rattle.upd_desk.proofs.desk_laws.replies_are_kept.Goals as goal

pub returns-clause-own : goal.returns-clause-own
returns-clause-own c = reply_kept

pub returns-clause-others : goal.returns-clause-others
returns-clause-others c = others_kept
