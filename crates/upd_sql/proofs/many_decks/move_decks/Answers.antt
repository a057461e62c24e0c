use Rattle.upd_sql.proofs.Common.{◌≡◌, map, List, Ok, subst, ◌∙◌, state, Makes, HoldsTables, change_view, done_all}
use Rattle.std.proofs.Common.{IfSome}
use Rattle.upd_row_store.specs.declared.plans.DeckPlan.{DeckPlan}
use Rattle.upd_sql.specs.ManyDecks.{AllCanPlan, DoAsPlanned, with_plans}
use Rattle.upd_sql.proofs.WholeLemmas.{looks_as}
use Rattle.upd_sql.proofs.TogetherLemmas.{made_found}
use Rattle.upd_sql.proofs.many_decks.move_decks.Goals as goal

pub returns-in_ok-move_planned-in-Some : goal.returns-in_ok-move_planned-in-Some
returns-in_ok-move_planned-in-Some g c =
    let cs = map change_view c.args.changes.now in
    let plans = c.in-Some.plans in
    let old = state g.S.Store c.args.tx.now.conn.now in
    let mid = state g.S.Store c.plans_in.new.tx.conn.now in
    let new = state g.S.Store c.move_planned.new.tx.conn.now in
    let y = c.in_ok-move_planned-in-Some.field-0 in
    let looks = looks_as (λ it found. IfSome found (λ ps. DoAsPlanned ps.items cs it))
    (λ it found. AllCanPlan plans.items it × (with_plans plans.items it ≡ done_all cs it)) old mid
    c.in_ok-plans.field-0 plans.items
    (λ it h. let are = subst (λ o. IfSome o (λ ps. DoAsPlanned ps.items cs it)) c.in-Some.is h in (are.can, are.same)) c.in_ok-plans.ensures.does in
    let made = subst (λ (ps : List DeckPlan). Makes HoldsTables (AllCanPlan ps) (with_plans ps) mid new (Ok y))
    c.deref.ensures.value c.in_ok-move_planned-in-Some.ensures.does in
    record {
      same_reference = c.in_ok-move_planned-in-Some.ensures.same_reference ∙ c.in_ok-plans.ensures.same_reference;
      does = made_found (AllCanPlan plans.items) (with_plans plans.items) (done_all cs) old mid new plans.items y looks made;
    }
