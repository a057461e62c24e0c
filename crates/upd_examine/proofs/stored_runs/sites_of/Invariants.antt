use Rattle.upd_examine.proofs.Common.{◌≡◌, map, take}
use Rattle.upd_examine.proofs.stored_runs.sites_of.Given as goal

abbrev pub invariant-loop-row : goal.invariant-loop-row
invariant-loop-row l = l.sites.items ≡ map (λ m. m.site) (take l.row-index l.marks)
