use Rattle.upd_store.proofs.Common.{OfStore}
use Rattle.upd_store.proofs.file.refuse_exposed.Goals as goal

pub returns-then-is_no_path : goal.returns-then-is_no_path
returns-then-is_no_path c = record { lost = OfStore _ c.store_at.ensures.kind c.store_at.ensures.at }

pub returns-in-Ok-true : goal.returns-in-Ok-true
returns-in-Ok-true c = record { lost = OfStore _ c.store_at-in-Ok-true.ensures.kind c.store_at-in-Ok-true.ensures.at }
