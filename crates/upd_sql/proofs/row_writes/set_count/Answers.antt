use Rattle.upd_sql.proofs.Common.{◌≡◌, ne_eqb, refl, rules, state, done, Rows, makes_as, with_count, without_count, HoldsTables, AnyTables}
use Rattle.upd_records.specs.Changes.{CountNow}
use Rattle.upd_sql.proofs.Typed.{makes_both}
use Rattle.upd_sql.proofs.row_writes.set_count.Goals as goal

pub returns : goal.returns
returns g c = record {
  same_reference = search rules;
  does =
      let old = state g.S.Store c.args.tx.now.conn.now in
      let new = state g.S.Store c.insert_count.new.tx.conn.now in
      let both = makes_both (without_count c.args.target) (with_count c.args.target c.args.n) old (state g.S.Store c.delete_count.new.tx.conn.now) new
      c.in_ok-delete_count.field-0 c.insert_count.result c.in_ok-delete_count.ensures.does c.insert_count.ensures.does in
      let same : (it : Rows) → with_count c.args.target c.args.n (without_count c.args.target it) ≡ done (CountNow c.args.target c.args.n) it =
      λ it. rw (ne_eqb c.args.n 0 c.if-n-eq0.false) refl in
      makes_as HoldsTables AnyTables AnyTables _ (done (CountNow c.args.target c.args.n)) old new c.insert_count.result (λ it any. any) same both;
}
