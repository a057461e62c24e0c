use Rattle.upd_memory.proofs.Common.{◌≡◌, drop, find, is_mark_of}
use Rattle.upd_memory.proofs.list_tables.ListTables.mark_of.Given as goal

abbrev pub invariant-loop-row : goal.invariant-loop-row
invariant-loop-row l = find (is_mark_of l.site) (drop l.row-index l.self.settled) ≡ find (is_mark_of l.site) l.self.settled
