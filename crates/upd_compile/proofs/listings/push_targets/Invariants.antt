use Rattle.upd_compile.proofs.Common.{◌≡◌, ◌++◌, drop, flat_map}
use Rattle.upd_compile.specs.Listings.{target_line}
use Rattle.upd_compile.proofs.listings.push_targets.Given as goal

abbrev pub invariant-loop-target : goal.invariant-loop-target
invariant-loop-target l =
    l.text.items ++ flat_map (target_line l.idents) (drop l.target-index l.targets)
    ≡ l.initial.text.items ++ flat_map (target_line l.idents) l.targets
