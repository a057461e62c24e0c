use Rattle.std.proofs.Common.{◌≡◌, ◌++◌, length, map}
use Rattle.std.specs.List.{AllByRecursion, flat_map}
use Rattle.upd_records.specs.Changes.{change_view}
use Rattle.upd_row_store.specs.Plans.{IsPlan, planned}
use Rattle.upd_row_store.proofs.plans.plans_in.Given as goal

abbrev pub invariant-loop-rest : goal.invariant-loop-rest
invariant-loop-rest l =
    AllByRecursion (IsPlan l.rows) l.plans.items
    × (flat_map planned l.plans.items ++ map change_view l.rest ≡ map change_view l.changes)

abbrev pub decreases-loop-rest : goal.decreases-loop-rest
decreases-loop-rest l = length l.rest
