use Rattle.upd_store.proofs.Common.{OfStore}
use Rattle.upd_store.proofs.file.refuse_text.Goals as goal

pub returns-in-Ok-true : goal.returns-in-Ok-true
returns-in-Ok-true c = record { lost = OfStore _ c.store_at.ensures.kind c.store_at.ensures.at }
