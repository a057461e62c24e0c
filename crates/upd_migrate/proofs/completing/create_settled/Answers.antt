use Rattle.upd_sql.proofs.MakingLemmas.{makes_settled}
use Rattle.upd_migrate.proofs.completing.create_settled.Goals as goal

pub returns-clause-transforms : goal.returns-clause-transforms
returns-clause-transforms g c all = c.create.ensures.transforms 8 all makes_settled
