use Rattle.upd_examine.proofs.Common.{◌≡◌, ◌++◌, drop, flat_map, ref_of, entry_rows}
use Rattle.upd_examine.proofs.own_rows.add_entries.Given as goal

abbrev pub invariant-loop-card : goal.invariant-loop-card
invariant-loop-card l =
    l.rows.items ++ flat_map (λ c. entry_rows (ref_of l.idents c) 0 c.history) (drop l.card-index l.cards)
    ≡ l.fn.rows.items ++ flat_map (λ c. entry_rows (ref_of l.idents c) 0 c.history) l.cards
