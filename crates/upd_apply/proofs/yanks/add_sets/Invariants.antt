use Rattle.upd_apply.proofs.Common.{◌≡◌, ◌&&◌, ◌++◌, drop, map, filter, Set, AreMarked, is_in, is_same, once}
use Rattle.upd_apply.proofs.yanks.add_sets.Given as goal

abbrev pub invariant-loop-ident : goal.invariant-loop-ident
invariant-loop-ident l = record {
  sets : once is_same (l.found.items ++ map Set (map (λ i. i.age) (filter (λ i. i.held && is_in l.ages i.age) (drop l.ident-index l.idents))))
      ≡ once is_same (l.initial.found.items ++ map Set (map (λ i. i.age) (filter (λ i. i.held && is_in l.ages i.age) l.idents)));
  apart : once is_same l.found.items ≡ l.found.items;
  marked : AreMarked l.marks.items l.found.items;
}
