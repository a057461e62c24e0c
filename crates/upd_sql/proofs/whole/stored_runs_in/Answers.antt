use Rattle.upd_sql.proofs.Common.{◌≡◌, rules, state}
use Rattle.upd_row_store.specs.Tables.{ListsRuns}
use Rattle.upd_sql.proofs.WholeLemmas.{looks_more}
use Rattle.upd_sql.proofs.whole.stored_runs_in.Goals as goal

pub returns : goal.returns
returns g c = record {
  same_reference = search rules;
  does =
      looks_more (λ it x. x.items ≡ it.runs) (λ it x. x.items ≡ it.settled) ListsRuns
      (state g.S.Store c.args.tx.now.conn.now) (state g.S.Store c.runs_in_turn.new.tx.conn.now) (state g.S.Store c.marks_in_turn.new.tx.conn.now)
      c.in_ok-runs.runs c.in_ok-marks.marks _ c.in_ok-runs.ensures.does c.in_ok-marks.ensures.does (λ it p q. record { runs = p; marks = q });
}
