use Rattle.upd_sql.proofs.Common.{◌+◌, Err, rules, state, HasEmptyTables}
use Rattle.upd_sql.proofs.MakingLemmas.{transforms_stop, transforms_then}
use Rattle.upd_sql.proofs.make.create_three.Goals as goal

pub returns : goal.returns
returns g c = record {
  same_reference = search rules;
  does = λ n a b d.
      let old = state g.S.Store c.args.tx.now.conn.now in
      let first = state g.S.Store c.create.new.tx.conn.now in
      let second = state g.S.Store c.create-2.new.tx.conn.now in
      let new = state g.S.Store c.create-3.new.tx.conn.now in
      transforms_then (HasEmptyTables n) (HasEmptyTables (n + 1)) (HasEmptyTables (n + 1 + 1 + 1)) old first new c.in_ok-create.field-0 c.create-3.result
      (c.in_ok-create.ensures.does n a)
      (transforms_then (HasEmptyTables (n + 1)) (HasEmptyTables (n + 1 + 1)) (HasEmptyTables (n + 1 + 1 + 1)) first second new c.in_ok-create-2.field-0
      c.create-3.result
      (c.in_ok-create-2.ensures.does (n + 1) b) (c.create-3.ensures.does (n + 1 + 1) d));
}

pub returns-in_err-create : goal.returns-in_err-create
returns-in_err-create g c = record {
  same_reference = search rules;
  does = λ n a b d.
      transforms_stop (HasEmptyTables n) (HasEmptyTables (n + 1)) (HasEmptyTables (n + 1 + 1 + 1)) (state g.S.Store c.args.tx.now.conn.now)
      (state g.S.Store c.create.new.tx.conn.now)
      c.in_err-create.field-0.0 c.from_residual.result (c.in_err-create.ensures.does n a) c.from_residual.ensures.0;
}

pub returns-in_err-create-2 : goal.returns-in_err-create-2
returns-in_err-create-2 g c = record {
  same_reference = search rules;
  does = λ n a b d.
      let old = state g.S.Store c.args.tx.now.conn.now in
      let first = state g.S.Store c.create.new.tx.conn.now in
      let second = state g.S.Store c.create-2.new.tx.conn.now in
      let both = transforms_then (HasEmptyTables n) (HasEmptyTables (n + 1)) (HasEmptyTables (n + 1 + 1)) old first second c.in_ok-create.field-0
      (Err c.in_err-create-2.field-0.0)
      (c.in_ok-create.ensures.does n a) (c.in_err-create-2.ensures.does (n + 1) b) in
      transforms_stop (HasEmptyTables n) (HasEmptyTables (n + 1 + 1)) (HasEmptyTables (n + 1 + 1 + 1)) old second c.in_err-create-2.field-0.0
      c.from_residual-in_err-create-2.result
      both
      c.from_residual-in_err-create-2.ensures.0;
}
