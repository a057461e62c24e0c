-- The targets of live cards, with an index for fast look-ups.
use Rattle.std.specs.Prelude.{◌≡◌, Bool, List, reverse}
use Rattle.std.specs.List.{list_any}
use Rattle.std.specs.HashSet as bag
use Rattle.upd_core.specs.contracts.target.TargetPartialEq.TheImpl as same
use Rattle.upd_core.specs.declared.target.Target.{Target}
use Rattle.upd_core.specs.declared.targets.Targets.TheInside.{Inside}

-- whether two targets are the same
abbrev pub is_same : Target → Target → Bool
is_same = (same.ghosts).eq

-- the targets in order: the vector has them from the last to the first
abbrev pub shown : Inside → List Target
shown t = reverse t.all.items

-- the index contains exactly the targets of the list
abbrev pub IsIndexed : Inside → Type 0
IsIndexed t = (target : Target) → bag.contains is_same t.index target ≡ list_any (is_same target) (shown t)
