use Rattle.upd_memory.proofs.Common.{◌≡◌, length, map, change_view, done_all, Rows, Agrees}
use Rattle.upd_memory.proofs.mirror.Mirror.carry_out_all.Given as goal

-- some tables agree that the rest of the changes leads to where all lead
abbrev pub invariant-loop-rest : goal.invariant-loop-rest
invariant-loop-rest l =
    (rows : Rows) → Agrees l.initial.self rows → (mid : Rows) × (Agrees l.self mid
    × (done_all (map change_view l.rest) mid ≡ done_all (map change_view l.changes) rows))

abbrev pub decreases-loop-rest : goal.decreases-loop-rest
decreases-loop-rest l = length l.rest
