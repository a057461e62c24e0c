use Rattle.upd_sql.proofs.Common.{rules, state, Rows, without_runs, without_mark, with_mark}
use Rattle.upd_sql.proofs.Typed.{makes_both}
use Rattle.upd_sql.proofs.settle.set_mark.Goals as goal

pub returns : goal.returns
returns g c = record {
  same_reference = search rules;
  does =
      let old = state g.S.Store c.args.tx.now.conn.now in
      let first = state g.S.Store c.delete_runs.new.tx.conn.now in
      let second = state g.S.Store c.delete_mark.new.tx.conn.now in
      let new = state g.S.Store c.insert_mark.new.tx.conn.now in
      let last = makes_both (without_mark c.args.site.now) (with_mark c.args.site.now c.args.number) first second new c.in_ok-delete_mark.field-0
      c.insert_mark.result c.in_ok-delete_mark.ensures.does c.insert_mark.ensures.makes.does in
      makes_both (without_runs c.args.site.now c.args.number) (λ (it : Rows). with_mark c.args.site.now c.args.number (without_mark c.args.site.now it)) old
      first new
      c.in_ok-delete_runs.field-0 c.insert_mark.result c.in_ok-delete_runs.ensures.does last;
}
