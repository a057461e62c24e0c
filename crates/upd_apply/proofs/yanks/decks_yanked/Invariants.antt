use Rattle.upd_apply.proofs.Common.{◌≡◌, ◌++◌, drop, Ok, ◌>>=◌, each, is_same, deck_targets, decks_yanked, once}
use Rattle.upd_apply.proofs.yanks.decks_yanked.Given as goal

abbrev pub invariant-loop-name : goal.invariant-loop-name
invariant-loop-name l = record {
  named : each (deck_targets l.set l.library) (drop l.name-index l.names) >>= (λ more. Ok (once is_same (l.found.items ++ more)))
      ≡ decks_yanked l.names l.set l.library;
  apart : once is_same l.found.items ≡ l.found.items;
}
