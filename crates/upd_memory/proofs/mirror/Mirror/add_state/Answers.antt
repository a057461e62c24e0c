use Rattle.upd_memory.proofs.Common.{◌≡◌, None, arith, common_steps, get, by_name}
use Rattle.upd_memory.proofs.MirrorLemmas.{when_ok}
use Rattle.upd_memory.proofs.StatusRowLemmas.{state_more}
use Rattle.upd_memory.proofs.mirror.Mirror.add_state.Goals as goal

pub returns : goal.returns
returns c = λ rows are.
    let was = c.args.self.now in
    let state = c.args.state.now in
    let none : get by_name was.statuses state.0 ≡ None = grind (arith, common_steps) in
    record {
      idents = are.idents;
      cards = are.cards;
      homes = are.homes;
      entries = are.entries;
      entry_count = are.entry_count;
      targets = are.targets;
      states = state_more was.statuses c.put_status.new.statuses rows.states state.0 state.1 none
          (when_ok _ c.ok.result _ c.ok.ensures.value c.in_ok-ok.was c.put_status.ensures) are.states;
      counts = are.counts;
    }
