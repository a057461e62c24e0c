use Rattle.upd_examine.proofs.Common.{◌≡◌, ◌++◌, drop, target_rows}
use Rattle.upd_examine.proofs.own_rows.add_target_rows.Given as goal

abbrev pub invariant-loop-i : goal.invariant-loop-i
invariant-loop-i l = l.rows.items ++ target_rows l.card l.i (drop l.i l.targets) ≡ l.fn.rows.items ++ target_rows l.card 0 l.targets
