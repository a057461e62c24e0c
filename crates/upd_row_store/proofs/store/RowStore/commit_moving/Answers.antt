use Rattle.upd_row_store.proofs.Common.{map, AllMoveListed, committed}
use Rattle.upd_records.specs.Changes.{change_view}
use Rattle.upd_records.specs.Fits.{AllFit}
use Rattle.upd_row_store.proofs.StoreLemmas.{write_narrower}
use Rattle.upd_row_store.proofs.store.RowStore.commit_moving.Goals as goal

pub returns-clause-leaves : goal.returns-clause-leaves
returns-clause-leaves g c =
    let changes = map change_view c.args.changes.now in
    write_narrower (AllFit changes) (λ rows. AllFit changes rows × AllMoveListed c.args.movable.now changes rows) (committed changes c.args.run)
    c.commit.result c.args.self.now c.commit.new.self (λ rows fits. fits.0) c.commit.ensures.leaves
