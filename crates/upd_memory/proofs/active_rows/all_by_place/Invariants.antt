use Rattle.upd_memory.proofs.Common.{◌≡◌, list_all, rise_from}
use Rattle.upd_memory.proofs.active_rows.all_by_place.Given as goal

abbrev pub invariant-loop-rows : goal.invariant-loop-rows
invariant-loop-rows l = list_all (λ e. rise_from 0 e.1.items) l.rows-iterator ≡ list_all (λ e. rise_from 0 e.1.items) l.decks.entries
