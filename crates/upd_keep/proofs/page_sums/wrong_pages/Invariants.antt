use Rattle.upd_keep.proofs.Common.{length}
use Rattle.std.proofs.Common.{◌+◌, ◌≤◌}
use Rattle.std.specs.List.{AllByRecursion}
use Rattle.upd_keep.proofs.page_sums.wrong_pages.Given as goal

abbrev pub invariant-loop-rest : goal.invariant-loop-rest
invariant-loop-rest l = (l.number + length l.rest ≤ length l.file) × AllByRecursion (λ k. k ≤ length l.file) l.pages.items

abbrev pub decreases-loop-rest : goal.decreases-loop-rest
decreases-loop-rest l = length l.rest
