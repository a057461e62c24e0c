use Rattle.upd_wire.proofs.Common.{◌≡◌, ◌≤◌, List, length, LeadsThrough, Made}
use Rattle.upd_wire.specs.LogLines.{Logs, ServedView}
use Rattle.upd_wire.proofs.connections.serve_each.Given as goal

abbrev pub invariant-connections : goal.invariant-connections
invariant-connections g l =
    (l.lost ≤ l.counter)
    × ((made : List Made) × (length made ≡ l.counter) × LeadsThrough g.S.Meaning made l.initial.desk.store l.desk.store
    × ((served : List ServedView) × Logs served made l.lost (g.W.Write.contents l.initial.log) (g.W.Write.contents l.log)))
