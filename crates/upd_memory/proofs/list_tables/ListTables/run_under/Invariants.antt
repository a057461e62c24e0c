use Rattle.upd_memory.proofs.Common.{◌≡◌, drop, find}
use Rattle.upd_row_store.specs.Tables.{is_run}
use Rattle.upd_memory.proofs.list_tables.ListTables.run_under.Given as goal

abbrev pub invariant-loop-run : goal.invariant-loop-run
invariant-loop-run l = find (is_run l.site l.number) (drop l.run-index l.self.runs) ≡ find (is_run l.site l.number) l.self.runs
