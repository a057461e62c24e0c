use Rattle.upd_sql.proofs.Common.{◌≡◌, Ok, filter, state, IsSame}
use Rattle.upd_sql.proofs.WholeLemmas.{is_before}
use Rattle.upd_sql.specs.Commits.{Looks}
use Rattle.upd_sql.proofs.whole.entries_in.Given as goal

abbrev pub invariant-loop-ord : goal.invariant-loop-ord
invariant-loop-ord g l =
    (l.tx.conn.ghost_name ≡ l.fn.tx.conn.ghost_name)
    × Looks (λ it found. IsSame found.items (filter (is_before l.ord) it.entries))
    (state g.S.Store l.fn.tx.conn.now) (state g.S.Store l.tx.conn.now) (Ok l.found)
