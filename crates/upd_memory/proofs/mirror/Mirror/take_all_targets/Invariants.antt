use Rattle.upd_memory.proofs.Common.{take, Agrees, Rows}
use Rattle.upd_row_store.specs.Ranges.{is_among, without_rows}
use Rattle.upd_row_store.specs.declared.ranges.CardRows.TheVariants.{Targets}
use Rattle.upd_memory.proofs.mirror.Mirror.take_all_targets.Given as goal

abbrev pub invariant-loop-card : goal.invariant-loop-card
invariant-loop-card l =
    (rows : Rows) → Agrees l.initial.self rows → Agrees l.self (without_rows Targets (is_among (take l.card-index l.cards)) rows)
