use Rattle.upd_memory.proofs.Common.{◌≡◌, map, drop, change_view, done_all, Rows, Agrees}
use Rattle.upd_memory.proofs.mirror.Mirror.carry_out_each.Given as goal

-- some tables agree that the rest of the changes leads to where all lead
abbrev pub invariant-loop-change : goal.invariant-loop-change
invariant-loop-change l =
    (rows : Rows) → Agrees l.initial.self rows → (mid : Rows) × (Agrees l.self mid
    × (done_all (map change_view (drop l.change-index l.changes)) mid ≡ done_all (map change_view l.changes) rows))
