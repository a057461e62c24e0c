use Rattle.upd_sql.proofs.Common.{◌≡◌, List, map, take}
use Rattle.upd_sql.proofs.record.each.Given as goal

abbrev pub invariant-loop-row : goal.invariant-loop-row
invariant-loop-row g l = (kept : List g.row.T.Denot) → l.rows ≡ map g.T.Record.stored kept → l.found.items ≡ take l.row-index kept
