use Rattle.upd_examine.proofs.Common.{◌≡◌, ◌++◌, drop, entry_rows}
use Rattle.upd_examine.proofs.own_rows.add_entry_rows.Given as goal

abbrev pub invariant-loop-i : goal.invariant-loop-i
invariant-loop-i l = l.rows.items ++ entry_rows l.card l.i (drop l.i l.history) ≡ l.fn.rows.items ++ entry_rows l.card 0 l.history
