use Rattle.upd_memory.proofs.Common.{◌++◌, map, take, Rows, Agrees, state_row}
use Rattle.upd_memory.proofs.mirror.Mirror.add_states.Given as goal

abbrev pub invariant-loop-state : goal.invariant-loop-state
invariant-loop-state l = (rows : Rows) → Agrees l.initial.self rows → Agrees l.self (record rows {
  states = rows.states
      ++ map state_row (take l.state-index l.states);
})
