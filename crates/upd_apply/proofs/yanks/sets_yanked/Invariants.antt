use Rattle.upd_apply.proofs.Common.{◌≡◌, ◌++◌, drop, Ok, ◌>>=◌, each, AreMarked, is_same, once, range_targets, sets_yanked}
use Rattle.upd_apply.proofs.yanks.sets_yanked.Given as goal

abbrev pub invariant-loop-range : goal.invariant-loop-range
invariant-loop-range l = record {
  named : each (range_targets l.set l.library) (drop l.range-index l.ranges) >>= (λ more. Ok (once is_same (l.found.items ++ more)))
      ≡ sets_yanked l.ranges l.set l.library;
  apart : once is_same l.found.items ≡ l.found.items;
  marked : AreMarked l.marks.items l.found.items;
}
