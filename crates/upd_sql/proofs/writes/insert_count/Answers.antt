use Rattle.upd_sql.proofs.Common.{[], ◌∷◌, ◌++◌, subst, Row, state, Ran, num}
use Rattle.upd_sql.proofs.Effects.{count_added}
use Rattle.upd_sql.specs.declared.texts.TheConstants.{INSERT_COUNT}
use Rattle.upd_sql.proofs.writes.insert_count.Goals as goal

pub returns : goal.returns
returns g c = record {
  same_reference = c.run.ensures.same_reference;
  does = count_added (record { target = c.args.target; n = c.args.n })
      (subst (λ (ps : Row). Ran INSERT_COUNT.now (ps ++ num c.args.n ∷ []) (state g.S.Store c.args.tx.now.conn.now)
      (state g.S.Store c.run.new.tx.conn.now) c.run.result) c.codes_of-codes.ensures
      (rw (c.number.ensures, c.number-2.ensures, c.number-3.ensures, c.number-4.ensures) at c.run.ensures.ran));
}
