use Rattle.upd_apply.proofs.Common.{◌≡◌, ◌++◌, drop, Ok, ◌>>=◌, each, is_same, once, pair_targets, pairs_yanked}
use Rattle.upd_apply.proofs.yanks.pairs_yanked.Given as goal

abbrev pub invariant-loop-pair : goal.invariant-loop-pair
invariant-loop-pair l = record {
  named : each (pair_targets l.set l.library) (drop l.pair-index l.pairs) >>= (λ more. Ok (once is_same (l.found.items ++ more)))
      ≡ pairs_yanked l.pairs l.set l.library;
  apart : once is_same l.found.items ≡ l.found.items;
}
