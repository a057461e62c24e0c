use Rattle.upd_memory.proofs.Common.{List, take, filter, not, StateRow, AreStatuses}
use Rattle.upd_row_store.specs.Ranges.{is_among}
use Rattle.upd_memory.proofs.tables.drop_statuses.Given as goal

abbrev pub invariant-loop-card : goal.invariant-loop-card
invariant-loop-card l =
    (rows : List StateRow) → AreStatuses l.initial.statuses rows → AreStatuses l.statuses (filter (λ r. not (is_among (take l.card-index l.cards) r.card)) rows)
