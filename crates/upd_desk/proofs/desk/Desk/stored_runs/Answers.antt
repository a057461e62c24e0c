use Rattle.upd_desk.proofs.QueryLemmas.{stored_told}
use Rattle.upd_desk.proofs.desk.Desk.stored_runs.Goals as goal

pub returns-clause-stored : goal.returns-clause-stored
returns-clause-stored g c =
    stored_told c.stored_runs.result c.args.self.now.store c.stored_runs.new.self c.stored_runs.ensures.leaves c.stored_runs.ensures.found
