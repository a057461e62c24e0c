use Rattle.upd_examine.proofs.Common.{drop, ◌↔◌, AllByRecursion, AreApart}
use Rattle.upd_examine.proofs.sound.are_targets_apart.Given as goal

abbrev pub invariant-loop-card : goal.invariant-loop-card
invariant-loop-card l = AllByRecursion (λ c. AreApart c.targets) (drop l.card-index l.yanks) ↔ AllByRecursion (λ c. AreApart c.targets) l.yanks
