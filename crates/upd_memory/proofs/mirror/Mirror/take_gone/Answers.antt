use Rattle.upd_memory.proofs.Common.{Agrees}
use Rattle.upd_row_store.specs.Ranges.{is_among, without_rows}
use Rattle.upd_row_store.specs.declared.ranges.CardRows.TheVariants.{Card, Entries, Targets}
use Rattle.upd_memory.proofs.MirrorLemmas.{on_success}
use Rattle.upd_memory.proofs.mirror.Mirror.take_gone.Goals as goal

pub returns : goal.returns
returns c =
    let gone = c.args.gone.now in
    on_success c.take_cards.result c.take_cards.ensures (λ taken rows are.
    rw c.deref-3.ensures.value at
    (taken (without_rows Targets (is_among gone.targets.items) (without_rows Entries (is_among gone.entries.items) rows))
    (rw c.deref-2.ensures.value at
    (c.take_all_targets.ensures (without_rows Entries (is_among gone.entries.items) rows)
    (rw c.deref.ensures.value at (c.take_all_entries.ensures rows are))))))
