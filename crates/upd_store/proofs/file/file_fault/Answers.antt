use Rattle.upd_store.proofs.Common.{OfStore}
use Rattle.upd_store.proofs.file.file_fault.Goals as goal

pub returns-in_default : goal.returns-in_default
returns-in_default c = record { lost = OfStore _ c.store_at.ensures.kind c.store_at.ensures.at }
