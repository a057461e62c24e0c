use Rattle.std.proofs.Common.{filter}
use Rattle.upd_row_store.proofs.Common.{same_filter, is_asked}
use Rattle.upd_row_store.proofs.AskedLemmas.{states_kept}
use Rattle.upd_row_store.proofs.asked.states_among.Goals as goal

pub returns-clause-read : goal.returns-clause-read
returns-clause-read c = λ rows are.
    let cards = c.args.cards.now in
    let found = c.states_by_key.ensures.read (record rows { states = filter (λ r. is_asked cards r.card) rows.states }) (record {
      states = states_kept cards c.in_ok-set.set rows c.args.states.states.items c.keep_states.new.states.items c.in_ok-set.ensures
          (same_filter (λ p. is_asked cards p.0) are.states) c.keep_states.ensures;
      counts = are.counts;
    }) in
    record { states = found.states; counts = found.counts }
