use Rattle.upd_memory.proofs.Common.{[], refl, subst, map, sym, same_of, same_trans, IsSame, count_pair, state_row}
use Rattle.upd_memory.proofs.MirrorLemmas.{agrees_same}
use Rattle.upd_memory.proofs.StatusRowLemmas.{states_read}
use Rattle.upd_memory.proofs.made.of_rows.Goals as goal

pub returns : goal.returns
returns c = λ tables rows_are states_are.
    let start = c.without_cards-mirror.ensures tables rows_are.idents rows_are.targets states_are.counts in
    let one = c.in_ok-add_cards.ensures (record tables { cards = []; entries = []; states = [] }) start in
    let two = c.in_ok-add_entries.ensures (record tables { cards = c.by_place-cards.result.items; entries = []; states = [] }) one in
    let three = c.in_ok-add_states.ensures (record tables {
      cards = c.by_place-cards.result.items;
      entries = c.args.rows.entries.items;
      states = [];
    }) two in
    agrees_same c.add_states.new.self _ tables three (same_of tables.idents tables.idents refl)
    (same_trans c.by_place-cards.ensures rows_are.cards) rows_are.entries
    (same_of tables.targets tables.targets refl)
    (subst (λ xs. IsSame (map state_row xs) tables.states) (sym c.deref.ensures.value)
    (states_read c.args.states.states.items tables.states states_are.states))
    (same_of (map count_pair tables.counts) (map count_pair tables.counts) refl)
