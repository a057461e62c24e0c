use Rattle.upd_store.proofs.Common.{ap, inr, Fault}
use Rattle.upd_store.proofs.store_faults.store_at.Goals as goal

pub returns-clause-unopened : goal.returns-clause-unopened
returns-clause-unopened c = inr (ap (λ (f : Fault). f.kind) c.at_line.ensures)
