use Rattle.upd_memory.proofs.Common.{ap, sym, write_lost}
use Rattle.upd_memory.proofs.list_store.ListStoreRowStore.settle_to.Goals as goal

pub returns-in_err-mark-clause-leaves : goal.returns-in_err-mark-clause-leaves
returns-in_err-mark-clause-leaves c =
    write_lost _ _ c.from_residual.result c.args.self.now _ c.from_residual.ensures.1
    (ap (λ t. record c.args.self.now { tables = t }) (sym c.in_err-mark.ensures.undone))
