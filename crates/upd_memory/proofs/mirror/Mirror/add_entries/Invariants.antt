use Rattle.upd_memory.proofs.Common.{◌≡◌, ◌++◌, List, EntryRow, Rows, Agrees}
use Rattle.upd_memory.proofs.mirror.Mirror.add_entries.Given as goal

abbrev pub invariant-loop-entry : goal.invariant-loop-entry
invariant-loop-entry l = (rows : Rows) → Agrees l.initial.self rows
    → (taken : List EntryRow) × ((taken ++ l.entry-iterator.rest.items ≡ l.fn.entries.items) × Agrees l.self (record rows { entries = rows.entries ++ taken }))
