use Rattle.std.proofs.Common.{ap, sym}
use Rattle.upd_text.specs.declared.fault.Fault.{Fault}
use Rattle.upd_row_store.proofs.KeepingLemmas.{memory_is_lost}
use Rattle.upd_row_store.specs.Keeping.{failures_with}
use Rattle.upd_store_tests.proofs.failed_commits.no_memory.Goals as goal

pub returns-clause-lost : goal.returns-clause-lost
returns-clause-lost c = memory_is_lost _ c.without_line.ensures

pub returns-clause-count : goal.returns-clause-count
returns-clause-count c n = sym (ap (λ (f : Fault). failures_with f.kind n) c.without_line.ensures)
