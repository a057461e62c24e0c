use Rattle.upd_core.proofs.Common.{◌≡◌, drop, list_any, count_in}
use Rattle.upd_core.specs.Reach.{is_retaken}
use Rattle.upd_core.proofs.counted.has_retaken.Given as goal

abbrev pub invariant-loop-entry : goal.invariant-loop-entry
invariant-loop-entry l =
    list_any (is_retaken (count_in l.before) (count_in l.now) l.deck) (drop l.entry-index l.history)
    ≡ list_any (is_retaken (count_in l.before) (count_in l.now) l.deck) l.history
