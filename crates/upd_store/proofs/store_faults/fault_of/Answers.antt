use Rattle.upd_store.proofs.Common.{OfStore}
use Rattle.upd_store.proofs.store_faults.fault_of.Goals as goal

pub returns-in_default-clause-lost : goal.returns-in_default-clause-lost
returns-in_default-clause-lost c = OfStore _ c.store_at.ensures.kind c.store_at.ensures.at
