use Rattle.upd_memory.proofs.Common.{◌≡◌, ◌++◌, [], if◌then◌else◌, flat_map, is_loaded}
use Rattle.upd_memory.proofs.row_copies.cards_of.Given as goal

abbrev pub invariant-loop-age : goal.invariant-loop-age
invariant-loop-age l =
    l.rows.items ++ flat_map (λ e. if is_loaded l.ages e.0 then e.1.items else []) l.age-iterator
    ≡ flat_map (λ e. if is_loaded l.ages e.0 then e.1.items else []) l.decks.entries
