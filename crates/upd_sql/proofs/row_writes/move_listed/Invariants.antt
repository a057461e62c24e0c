use Rattle.upd_sql.proofs.Common.{◌≡◌, pos, Ok, slice_cmp, IsStrictlySortedBy, keys_of, nat_cmp, state, CardsMoved, Fits, MovesListed, Makes, HoldsTables}
use Rattle.upd_sql.proofs.Common.{with_others_moved}
use Rattle.upd_sql.proofs.row_writes.move_listed.Given as goal

abbrev pub invariant-loop-ident : goal.invariant-loop-ident
invariant-loop-ident g l =
    (l.tx.conn.ghost_name ≡ l.initial.tx.conn.ghost_name)
    × IsStrictlySortedBy (slice_cmp nat_cmp) (keys_of l.ident-iterator)
    × Makes {X = Unit {0}} HoldsTables (λ it. Fits (CardsMoved l.deck l.from (pos l.by)) it × MovesListed l.movable (CardsMoved l.deck l.from (pos l.by)) it)
    (with_others_moved l.ident-iterator l.deck l.from l.by) (state g.S.Store l.initial.tx.conn.now) (state g.S.Store l.tx.conn.now) (Ok tt)
