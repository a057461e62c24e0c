use Rattle.upd_store.proofs.Common.{ap, sym, Fault}
use Rattle.upd_row_store.specs.Keeping.{OfMemory, failures_with}
use Rattle.upd_store.proofs.store_faults.no_memory.Goals as goal

pub returns-clause-lost : goal.returns-clause-lost
returns-clause-lost c = OfMemory _ (ap (λ (f : Fault). f.kind) c.from.ensures) (ap (λ (f : Fault). f.at) c.from.ensures)

pub returns-clause-count : goal.returns-clause-count
returns-clause-count c failures = sym (ap (λ (f : Fault). failures_with f.kind failures) c.from.ensures)
