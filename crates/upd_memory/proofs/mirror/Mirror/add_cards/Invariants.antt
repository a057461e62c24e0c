use Rattle.upd_memory.proofs.Common.{◌≡◌, ◌++◌, List, CardRow, Rows, Agrees}
use Rattle.upd_memory.proofs.mirror.Mirror.add_cards.Given as goal

abbrev pub invariant-loop-card : goal.invariant-loop-card
invariant-loop-card l = (rows : Rows) → Agrees l.initial.self rows
    → (taken : List CardRow) × ((taken ++ l.card-iterator.rest.items ≡ l.fn.cards.items) × Agrees l.self (record rows { cards = rows.cards ++ taken }))
