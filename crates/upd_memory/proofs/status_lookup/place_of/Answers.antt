use Rattle.upd_memory.proofs.Common.{rules, by_name}
use Rattle.std.proofs.lemmas.Fn.{always_returns_same}
use Rattle.upd_memory.proofs.ActiveRowsLemmas.{searched}
use Rattle.upd_memory.proofs.status_lookup.place_of.Goals as goal

pub returns-clause-place : goal.returns-clause-place
returns-clause-place c = λ up.
    let card = c.args.card.now in
    let found = c.binary_search_by.ensures.position (λ e. by_name e.0 card) (always_returns_same _ _ _ (λ a r f k. search rules)) in
    rw c.ok.ensures.value (searched card c.args.pairs.now c.binary_search_by.result up found)
