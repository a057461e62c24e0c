use Rattle.upd_desk.proofs.LoadingLemmas.{no_more}
use Rattle.upd_desk.proofs.desk.Desk.ident_list.Goals as goal

pub returns-clause-reads : goal.returns-clause-reads
returns-clause-reads g c honest journal held = no_more _ _ (c.ask.ensures.reads honest journal held)
