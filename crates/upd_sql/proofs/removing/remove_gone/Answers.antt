use Rattle.upd_sql.proofs.Common.{rules, state}
use Rattle.upd_row_store.specs.Ranges.{in_ranges, without_rows}
use Rattle.upd_row_store.specs.declared.ranges.CardRows.TheVariants.{Card, Entries, Targets}
use Rattle.upd_sql.proofs.Typed.{makes_both}
use Rattle.upd_sql.proofs.removing.remove_gone.Goals as goal

pub returns : goal.returns
returns g c = record {
  same_reference = search rules;
  does =
      let gone = c.args.gone.now in
      let first = state g.S.Store c.args.tx.now.conn.now in
      let second = state g.S.Store c.remove_ranges.new.tx.conn.now in
      let third = state g.S.Store c.remove_ranges-2.new.tx.conn.now in
      let last = state g.S.Store c.remove_ranges-3.new.tx.conn.now in
      let two = makes_both (without_rows Entries (in_ranges gone.entries.items)) (without_rows Targets (in_ranges gone.targets.items)) first second third
      c.in_ok-remove_ranges.field-0 _ (rw c.deref.ensures.value at c.in_ok-remove_ranges.ensures.does)
      (rw c.deref-2.ensures.value at c.in_ok-remove_ranges-2.ensures.does) in
      makes_both _ (without_rows Card (in_ranges gone.cards.items)) first third last c.in_ok-remove_ranges-2.field-0 c.remove_ranges-3.result two
      (rw c.deref-3.ensures.value at c.remove_ranges-3.ensures.does);
}
