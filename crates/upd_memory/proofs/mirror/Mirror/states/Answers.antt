use Rattle.upd_memory.proofs.Common.{◌∙◌, subst, sym, map, IsSame, count_pair, state_pair}
use Rattle.upd_memory.proofs.StatusRowLemmas.{pairs_same}
use Rattle.upd_memory.proofs.mirror.Mirror.states.Goals as goal

pub returns-clause-read : goal.returns-clause-read
returns-clause-read c = λ rows are. c.states_by_key.ensures.read rows (record {
  states = subst (λ xs. IsSame xs (map state_pair rows.states)) (sym c.in_ok-states.ensures.pairs)
      (pairs_same c.args.self.now.statuses rows.states c.in_ok-states.ensures.ordered are.states);
  counts = subst (λ xs. IsSame xs (map count_pair rows.counts)) (sym (c.in_ok-counts.ensures.items ∙ c.deref.ensures.value)) are.counts;
})
