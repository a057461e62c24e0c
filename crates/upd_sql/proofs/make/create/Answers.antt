use Rattle.upd_sql.proofs.Common.{◌+◌, state, HasEmptyTables}
use Rattle.upd_sql.proofs.MakingLemmas.{transforms_from, next_made}
use Rattle.upd_sql.proofs.make.create.Goals as goal

pub returns : goal.returns
returns g c =
    let old = state g.S.Store c.args.tx.now.conn.now in
    let new = state g.S.Store c.run.new.tx.conn.now in
    record {
      same_reference = c.run.ensures.same_reference;
      does = λ n m.
          transforms_from (HasEmptyTables n) (HasEmptyTables (n + 1)) c.args.sql.now old new c.run.result c.run.ensures.ran
          (λ count ran h. next_made n c.args.sql.now m old new count ran h);
    }
