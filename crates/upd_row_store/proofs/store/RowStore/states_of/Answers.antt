use Rattle.upd_row_store.proofs.StoreLemmas.{read_lost}
use Rattle.upd_row_store.proofs.store.RowStore.states_of.Goals as goal

pub returns-in_err-states-2-clause-leaves : goal.returns-in_err-states-2-clause-leaves
returns-in_err-states-2-clause-leaves g c =
    read_lost c.from_residual-in_err-states-2.result c.args.self.now c.load_states.new.self c.from_residual-in_err-states-2.ensures.1
    c.in_ok-states.ensures.leaves.same c.in_ok-states.ensures.leaves.failed c.in_ok-states.ensures.leaves.unread
