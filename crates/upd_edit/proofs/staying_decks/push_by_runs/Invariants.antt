use Rattle.upd_edit.proofs.Common.{◌≡◌, ◌++◌, drop}
use Rattle.upd_edit.specs.StayingDecks.{warnings_by_runs}
use Rattle.upd_edit.proofs.staying_decks.push_by_runs.Given as goal

abbrev pub invariant-loop-warning : goal.invariant-loop-warning
invariant-loop-warning l = l.told.items ++ warnings_by_runs l.runs l.idents (drop l.warning-index l.list)
    ≡ l.initial.told.items ++ warnings_by_runs l.runs l.idents l.list
