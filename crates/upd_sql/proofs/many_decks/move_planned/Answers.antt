use Rattle.upd_sql.proofs.Common.{◌++◌, ◌∷◌, [], List, take, take_more, Ok, sym, ap, subst, ◌∙◌, state, Makes, HoldsTables}
use Rattle.upd_row_store.specs.declared.plans.DeckPlan.{DeckPlan}
use Rattle.upd_row_store.specs.declared.shift.Shift.{Shift}
use Rattle.upd_sql.specs.ManyDecks.{AllCanPlan, with_plans}
use Rattle.upd_sql.specs.Moving.{AllCanShift, with_all_shifted}
use Rattle.upd_sql.proofs.ManyDeckLemmas.{one_planned}
use Rattle.upd_sql.proofs.many_decks.move_planned.Goals as goal

pub loop-plan-preserved : goal.loop-plan-preserved
loop-plan-preserved g c =
    let plans = c.args.plans.now in
    let i = c.loop-plan.plan-index in
    let p = c.plan-item.result in
    let old = state g.S.Store c.args.tx.now.conn.now in
    let mid = state g.S.Store c.loop-plan.tx.conn.now in
    let new = state g.S.Store c.move_shifts.new.tx.conn.now in
    let before = take i plans in
    let more = take_more plans i p c.loop-plan-test.true ∙ ap (λ x. before ++ x ∷ []) (sym c.plan-item.is) in
    let step = subst (λ (ss : List Shift). Makes HoldsTables (AllCanShift p.deck p.from ss) (with_all_shifted p.deck p.from ss) mid new
    (Ok c.in_ok-move_shifts.field-0))
    c.deref.ensures.value c.in_ok-move_shifts.ensures.does in
    let made = one_planned before p c.loop-plan.invariant.1 step in (
      c.in_ok-move_shifts.ensures.same_reference ∙ c.loop-plan.invariant.0,
      subst (λ (ps : List DeckPlan). Makes {X = Unit {0}} HoldsTables (AllCanPlan ps) (with_plans ps) old new (Ok tt)) (sym more) made,
    )
