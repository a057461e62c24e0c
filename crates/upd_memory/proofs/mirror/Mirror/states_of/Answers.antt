use Rattle.upd_memory.proofs.Common.{◌∙◌, [], subst, sym, map, same_of, IsSame, count_pair}
use Rattle.upd_memory.proofs.ActiveRowsLemmas.{pairs_sorted}
use Rattle.upd_memory.proofs.mirror.Mirror.states_of.Goals as goal

pub returns-clause-read : goal.returns-clause-read
returns-clause-read c = λ rows are.
    let found = c.states_by_key-counts.ensures.read (record rows { states = [] }) (record {
      states = same_of _ [] c.new.ensures.items;
      counts = subst (λ xs. IsSame xs (map count_pair rows.counts)) (sym (c.in_ok-counts.ensures.items ∙ c.deref.ensures.value)) are.counts;
    }) in
    record { states = c.in_ok-states.ensures.same rows.states are.states; counts = found.counts }

pub returns-clause-order : goal.returns-clause-order
returns-clause-order c = record {
  states = pairs_sorted c.in_ok-states.states.items c.in_ok-states.ensures.order;
  counts = c.states_by_key-counts.ensures.order.counts;
}
