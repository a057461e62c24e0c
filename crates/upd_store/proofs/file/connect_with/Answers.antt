use Rattle.upd_store.proofs.Common.{OfStore}
use Rattle.upd_store.proofs.file.connect_with.Goals as goal

pub returns-else-unwrap_or-clause-lost : goal.returns-else-unwrap_or-clause-lost
returns-else-unwrap_or-clause-lost g c = OfStore _ c.store_at.ensures.kind c.store_at.ensures.at
