use Rattle.std.proofs.Common.{ap}
use Rattle.upd_text.specs.declared.fault.Fault.{Fault}
use Rattle.upd_row_store.specs.Keeping.{OfStore, failures_with}
use Rattle.upd_store_tests.proofs.failed_commits.store_failed.Goals as goal

pub returns-clause-lost : goal.returns-clause-lost
returns-clause-lost c = OfStore _ (ap (λ (f : Fault). f.kind) c.without_line.ensures) (ap (λ (f : Fault). f.at) c.without_line.ensures)

pub returns-clause-count : goal.returns-clause-count
returns-clause-count c n = ap (λ (f : Fault). failures_with f.kind n) c.without_line.ensures
