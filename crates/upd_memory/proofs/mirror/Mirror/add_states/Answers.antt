use Rattle.upd_memory.proofs.Common.{◌++◌, map, subst, take, Agrees, state_row}
use Rattle.upd_memory.proofs.KeyedLemmas.{one_made}
use Rattle.upd_memory.proofs.mirror.Mirror.add_states.Goals as goal

pub loop-state-preserved : goal.loop-state-preserved
loop-state-preserved c = λ rows are.
    subst (λ more. Agrees c.add_state.new.self (record rows { states = more }))
    (one_made state_row rows.states c.args.states.now c.loop-state.state-index c.state-item.result c.loop-state-test.true c.state-item.is)
    (c.in_ok-add_state.ensures (record rows { states = rows.states ++ map state_row (take c.loop-state.state-index c.args.states.now) })
    (c.loop-state.invariant rows are))
