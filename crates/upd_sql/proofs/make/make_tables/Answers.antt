use Rattle.upd_sql.proofs.Common.{Ok, Err, rules, state, HasEmptyTables, Transforms, no_rows, HoldsTables}
use Rattle.upd_sql.proofs.MakingLemmas.{transforms_stop, transforms_then, opened_before, makes_meta, makes_idents, makes_cards, makes_entries, makes_targets}
use Rattle.upd_sql.proofs.MakingLemmas.{makes_runs}
use Rattle.upd_sql.proofs.MakingLemmas.{makes_states, makes_counts, makes_settled}
use Rattle.upd_sql.proofs.make.make_tables.Goals as goal

pub returns-clause-transforms : goal.returns-clause-transforms
returns-clause-transforms g c = record {
  same_reference = search rules;
  does =
      let old = state g.S.Store c.args.tx.now.conn.now in
      let first = state g.S.Store c.create_three.new.tx.conn.now in
      let second = state g.S.Store c.create_three-2.new.tx.conn.now in
      let third = state g.S.Store c.create_three-3.new.tx.conn.now in
      let new = state g.S.Store c.insert_version.new.tx.conn.now in
      transforms_then (HasEmptyTables 0) (HasEmptyTables 3) (HoldsTables no_rows) old first new c.in_ok-create_three.field-0 c.insert_version.result
      (c.in_ok-create_three.ensures.does 0 makes_meta makes_idents makes_cards)
      (transforms_then (HasEmptyTables 3) (HasEmptyTables 6) (HoldsTables no_rows) first second new c.in_ok-create_three-2.field-0 c.insert_version.result
      (c.in_ok-create_three-2.ensures.does 3 makes_entries makes_targets makes_runs)
      (transforms_then (HasEmptyTables 6) (HasEmptyTables 9) (HoldsTables no_rows) second third new c.in_ok-create_three-3.field-0 c.insert_version.result
      (c.in_ok-create_three-3.ensures.does 6 makes_states makes_counts makes_settled)
      c.insert_version.ensures.transforms.does));
}

pub returns-in_err-create_three-clause-transforms : goal.returns-in_err-create_three-clause-transforms
returns-in_err-create_three-clause-transforms g c = record {
  same_reference = search rules;
  does =
      transforms_stop (HasEmptyTables 0) (HasEmptyTables 3) (HoldsTables no_rows) (state g.S.Store c.args.tx.now.conn.now)
      (state g.S.Store c.create_three.new.tx.conn.now) c.in_err-create_three.field-0.0 c.from_residual.result
      (c.in_err-create_three.ensures.does 0 makes_meta makes_idents makes_cards) c.from_residual.ensures.0;
}

pub returns-in_err-create_three-2-clause-transforms : goal.returns-in_err-create_three-2-clause-transforms
returns-in_err-create_three-2-clause-transforms g c = record {
  same_reference = search rules;
  does =
      let old = state g.S.Store c.args.tx.now.conn.now in
      let first = state g.S.Store c.create_three.new.tx.conn.now in
      let second = state g.S.Store c.create_three-2.new.tx.conn.now in
      transforms_stop (HasEmptyTables 0) (HasEmptyTables 6) (HoldsTables no_rows) old second c.in_err-create_three-2.field-0.0
      c.from_residual-in_err-create_three-2.result
      (transforms_then (HasEmptyTables 0) (HasEmptyTables 3) (HasEmptyTables 6) old first second c.in_ok-create_three.field-0
      (Err c.in_err-create_three-2.field-0.0) (c.in_ok-create_three.ensures.does 0 makes_meta makes_idents makes_cards)
      (c.in_err-create_three-2.ensures.does 3 makes_entries makes_targets makes_runs))
      c.from_residual-in_err-create_three-2.ensures.0;
}

pub returns-in_err-create_three-3-clause-transforms : goal.returns-in_err-create_three-3-clause-transforms
returns-in_err-create_three-3-clause-transforms g c = record {
  same_reference = search rules;
  does =
      let old = state g.S.Store c.args.tx.now.conn.now in
      let first = state g.S.Store c.create_three.new.tx.conn.now in
      let second = state g.S.Store c.create_three-2.new.tx.conn.now in
      let third = state g.S.Store c.create_three-3.new.tx.conn.now in
      transforms_stop (HasEmptyTables 0) (HasEmptyTables 9) (HoldsTables no_rows) old third c.in_err-create_three-3.field-0.0
      c.from_residual-in_err-create_three-3.result
      (transforms_then (HasEmptyTables 0) (HasEmptyTables 3) (HasEmptyTables 9) old first third c.in_ok-create_three.field-0
      (Err c.in_err-create_three-3.field-0.0) (c.in_ok-create_three.ensures.does 0 makes_meta makes_idents makes_cards)
      (transforms_then (HasEmptyTables 3) (HasEmptyTables 6) (HasEmptyTables 9) first second third c.in_ok-create_three-2.field-0
      (Err c.in_err-create_three-3.field-0.0) (c.in_ok-create_three-2.ensures.does 3 makes_entries makes_targets makes_runs)
      (c.in_err-create_three-3.ensures.does 6 makes_states makes_counts makes_settled)))
      c.from_residual-in_err-create_three-3.ensures.0;
}

pub returns-clause-was_open : goal.returns-clause-was_open
returns-clause-was_open g c =
    let old = state g.S.Store c.args.tx.now.conn.now in
    let first = state g.S.Store c.create_three.new.tx.conn.now in
    let second = state g.S.Store c.create_three-2.new.tx.conn.now in
    let third = state g.S.Store c.create_three-3.new.tx.conn.now in
    let new = state g.S.Store c.insert_version.new.tx.conn.now in
    let made : Transforms {X = Unit {0}} (HasEmptyTables 0) (HasEmptyTables 9) old third (Ok c.in_ok-create_three-3.field-0) =
    transforms_then (HasEmptyTables 0) (HasEmptyTables 3) (HasEmptyTables 9) old first third c.in_ok-create_three.field-0 (Ok c.in_ok-create_three-3.field-0)
    (c.in_ok-create_three.ensures.does 0 makes_meta makes_idents makes_cards)
    (transforms_then (HasEmptyTables 3) (HasEmptyTables 6) (HasEmptyTables 9) first second third c.in_ok-create_three-2.field-0
    (Ok c.in_ok-create_three-3.field-0)
    (c.in_ok-create_three-2.ensures.does 3 makes_entries makes_targets makes_runs)
    (c.in_ok-create_three-3.ensures.does 6 makes_states makes_counts makes_settled)) in
    opened_before old third new c.in_ok-create_three-3.field-0 c.insert_version.result
    made.steps c.insert_version.ensures.transforms.does.steps c.insert_version.ensures.was_open
