use Rattle.upd_sql.proofs.Common.{rules, state, HasEmptyTables, no_rows, HoldsTables}
use Rattle.upd_sql.specs.declared.texts.TheConstants.{INSERT_VERSION}
use Rattle.upd_sql.proofs.MakingLemmas.{transforms_from, version_written}
use Rattle.upd_sql.proofs.make.insert_version.Goals as goal

pub returns-clause-transforms : goal.returns-clause-transforms
returns-clause-transforms g c = record {
  same_reference = search rules;
  does =
      let old = state g.S.Store c.args.tx.now.conn.now in
      let new = state g.S.Store c.run.new.tx.conn.now in
      transforms_from (HasEmptyTables 9) (HoldsTables no_rows) INSERT_VERSION.now old new c.run.result c.run.ensures.ran
      (λ count ran h. version_written old new count ran h);
}
