use Rattle.upd_subcommands.proofs.Common.{◌∙◌, ap, sym}
use Rattle.std.specs.Prelude.{not}
use Rattle.std.specs.List.{list_any}
use Rattle.upd_edit.proofs.StayingLemmas.{unasked_now}
use Rattle.upd_edit.specs.StayingDecks.{asks_runs}
use Rattle.upd_row_store.proofs.KeepingLemmas.{memory_is_lost}
use Rattle.upd_subcommands.proofs.arriving.by_stored_runs.Goals as goal

pub returns-then-not-ask_runs-clause-list : goal.returns-then-not-ask_runs-clause-list
returns-then-not-ask_runs-clause-list g c = λ honest rows shown.
    sym (unasked_now c.args.since.now rows.runs c.args.library.now c.args.list.items
    (ap not c.is_none.ensures ∙ ap (λ r. not (not r)) c.if-is_none.true)
    (ap (list_any (λ w. asks_runs w.kind)) (sym c.deref.ensures.value) ∙ sym c.ask_runs.ensures ∙ c.if-not-ask_runs.true))

pub returns-clause-lost : goal.returns-clause-lost
returns-clause-lost g c = memory_is_lost c.from.result c.from.ensures
