use Rattle.upd_memory.proofs.Common.{List, take, filter, not, CardRow, AreHomes}
use Rattle.upd_row_store.specs.Ranges.{is_among}
use Rattle.upd_memory.proofs.tables.drop_homes.Given as goal

abbrev pub invariant-loop-card : goal.invariant-loop-card
invariant-loop-card l =
    (rows : List CardRow) → AreHomes l.initial.homes rows → AreHomes l.homes (filter (λ r. not (is_among (take l.card-index l.cards) r.card)) rows)
