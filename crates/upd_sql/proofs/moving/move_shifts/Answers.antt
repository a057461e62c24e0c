use Rattle.upd_sql.proofs.Common.{◌++◌, ◌∷◌, [], List, take, take_more, Ok, sym, ap, subst, ◌∙◌, state, Makes, HoldsTables}
use Rattle.upd_row_store.specs.declared.shift.Shift.{Shift}
use Rattle.upd_sql.specs.Moving.{AllCanShift, with_all_shifted}
use Rattle.upd_sql.proofs.TogetherLemmas.{one_shifted}
use Rattle.upd_sql.proofs.moving.move_shifts.Goals as goal

pub loop-shift-preserved : goal.loop-shift-preserved
loop-shift-preserved g c =
    let deck = c.args.deck in
    let from = c.args.from in
    let shifts = c.args.shifts.now in
    let i = c.loop-shift.shift-index in
    let s = c.shift-item.result in
    let old = state g.S.Store c.args.tx.now.conn.now in
    let new = state g.S.Store c.move_shift.new.tx.conn.now in
    let before = take i shifts in
    let more = take_more shifts i s c.loop-shift-test.true ∙ ap (λ x. before ++ x ∷ []) (sym c.shift-item.is) in
    let made = one_shifted deck from before s c.loop-shift.invariant.1 c.in_ok-move_shift.ensures.does in (
      c.in_ok-move_shift.ensures.same_reference ∙ c.loop-shift.invariant.0,
      subst (λ (ss : List Shift). Makes {X = Unit {0}} HoldsTables (AllCanShift deck from ss) (with_all_shifted deck from ss) old new (Ok tt)) (sym more) made,
    )
