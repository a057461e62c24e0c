use Rattle.upd_store.proofs.Common.{OfStore}
use Rattle.upd_store.proofs.store_faults.refused.Goals as goal

pub returns-clause-lost : goal.returns-clause-lost
returns-clause-lost c = OfStore _ c.store_at.ensures.kind c.store_at.ensures.at
