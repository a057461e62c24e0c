use Rattle.upd_sql.proofs.Common.{◌++◌, ◌∷◌, [], List, take, take_more, Ok, refl, sym, ap, subst, ◌∙◌, state, Makes, AnyTables, HoldsTables}
use Rattle.upd_row_store.specs.Ranges.{in_ranges, without_rows}
use Rattle.upd_row_store.specs.declared.ranges.CardRange.{CardRange}
use Rattle.upd_sql.proofs.RemovingLemmas.{none_removed, one_removed}
use Rattle.upd_sql.proofs.removing.remove_ranges.Goals as goal

pub loop-range-init : goal.loop-range-init
loop-range-init g c = (refl, none_removed c.args.which (state g.S.Store c.args.tx.now.conn.now) tt)

pub loop-range-preserved : goal.loop-range-preserved
loop-range-preserved g c =
    let which = c.args.which in
    let ranges = c.args.ranges.now in
    let i = c.loop-range.range-index in
    let range = c.range-item.result in
    let old = state g.S.Store c.args.tx.now.conn.now in
    let new = state g.S.Store c.remove_range.new.tx.conn.now in
    let before = take i ranges in
    let more = take_more ranges i range c.loop-range-test.true ∙ ap (λ x. before ++ x ∷ []) (sym c.range-item.is) in
    let made = one_removed which before range c.loop-range.invariant.1 c.in_ok-remove_range.ensures.does in (
      c.in_ok-remove_range.ensures.same_reference ∙ c.loop-range.invariant.0,
      subst (λ (rs : List CardRange). Makes {X = Unit {0}} HoldsTables AnyTables (without_rows which (in_ranges rs)) old new (Ok tt)) (sym more) made,
    )
