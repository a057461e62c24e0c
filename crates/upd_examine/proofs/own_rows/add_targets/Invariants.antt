use Rattle.upd_examine.proofs.Common.{◌≡◌, ◌++◌, drop, flat_map, ref_of, target_rows}
use Rattle.upd_examine.proofs.own_rows.add_targets.Given as goal

abbrev pub invariant-loop-card : goal.invariant-loop-card
invariant-loop-card l =
    l.rows.items ++ flat_map (λ c. target_rows (ref_of l.idents c) 0 c.targets) (drop l.card-index l.cards)
    ≡ l.fn.rows.items ++ flat_map (λ c. target_rows (ref_of l.idents c) 0 c.targets) l.cards
