use Rattle.upd_desk.proofs.Common.{◌≡◌, ◌++◌, map}
use Rattle.std.proofs.Common.{drop}
use Rattle.upd_desk.proofs.run_loading.add_references.Given as goal

abbrev pub invariant-loop-card : goal.invariant-loop-card
invariant-loop-card l =
    l.cards.items ++ map (λ k. k.card) (drop l.card-index l.counted) ≡ l.initial.cards.items ++ map (λ k. k.card) l.counted
