use Rattle.upd_apply.proofs.Common.{◌≡◌, ◌++◌, ◌==◌, map, drop, filter}
use Rattle.upd_apply.specs.Purges.{idents_with}
use Rattle.upd_apply.proofs.purges.idents_with.Given as goal

abbrev pub invariant-loop-pair : goal.invariant-loop-pair
invariant-loop-pair l =
    l.idents.items ++ map (λ a. a.ident) (filter (λ a. a.deck == l.deck) (drop l.pair-index l.pairs.items)) ≡ idents_with l.deck l.pairs.items
