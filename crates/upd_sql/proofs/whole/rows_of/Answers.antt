use Rattle.upd_sql.proofs.Common.{state}
use Rattle.sqlite.specs.Values.{bound}
use Rattle.upd_sql.proofs.Finds.{untouched}
use Rattle.upd_sql.proofs.Typed.{was_open_from}
use Rattle.upd_sql.proofs.whole.rows_of.Goals as goal

pub returns : goal.returns
returns g c =
    let old = state g.S.Store c.args.tx.now.conn.now in
    let new = state g.S.Store c.ask.new.tx.conn.now in
    record {
      same_reference = c.ask.ensures.same_reference;
      does = record {
        steps = c.ask.ensures.steps;
        was_open = λ clean. was_open_from (λ rows. rows.items) _ _ old new c.ask.result (c.ask.ensures.shown clean);
        same = λ plain clean.
            untouched (λ rows. rows.items) c.args.sql.now (bound c.args.params.now) old new c.ask.result plain (c.ask.ensures.shown clean);
        shown = c.ask.ensures.shown;
      };
    }
