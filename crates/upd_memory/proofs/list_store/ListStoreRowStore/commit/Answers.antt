use Rattle.upd_memory.proofs.Common.{ap, sym, write_lost}
use Rattle.upd_memory.proofs.list_store.ListStoreRowStore.commit.Goals as goal

pub returns-in_err-commit_all-clause-leaves : goal.returns-in_err-commit_all-clause-leaves
returns-in_err-commit_all-clause-leaves c =
    write_lost _ _ c.from_residual.result c.args.self.now _ c.from_residual.ensures.1
    (ap (λ t. record c.args.self.now { tables = t }) (sym c.in_err-commit_all.ensures.undone))
