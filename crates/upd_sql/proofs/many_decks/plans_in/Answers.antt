use Rattle.upd_sql.proofs.Common.{◌≡◌, map, ◌∙◌, subst, state, AllByRecursion, List, CardRow, change_view}
use Rattle.std.proofs.Common.{IfSome}
use Rattle.upd_row_store.specs.Plans.{IsPlan}
use Rattle.upd_sql.specs.ManyDecks.{DoAsPlanned}
use Rattle.upd_sql.proofs.ManyDeckLemmas.{do_as_planned, on_all}
use Rattle.upd_sql.proofs.WholeLemmas.{looks_as}
use Rattle.upd_sql.proofs.many_decks.plans_in.Goals as goal

pub returns : goal.returns
returns g c =
    let old = state g.S.Store c.args.tx.now.conn.now in
    let new = state g.S.Store c.cards_in_turn.new.tx.conn.now in
    let rows = c.in_ok-rows.rows in
    let cs = map change_view c.args.changes.now in
    let plans = c.plans_of.result in
    record {
      same_reference = c.in_ok-rows.ensures.same_reference;
      does =
          looks_as (λ it found. found.items ≡ it.cards) (λ it found. IfSome found (λ ps. DoAsPlanned ps.items cs it)) old new rows plans
          (λ it is. on_all plans c.plans_of.ensures.plans c.plans_of.ensures.rise c.plans_of.ensures.whole (λ ps are rise whole.
          do_as_planned ps.items cs it rise (subst (λ (rs : List CardRow). AllByRecursion (IsPlan rs) ps.items) (c.deref.ensures.value ∙ is) are) whole))
          c.in_ok-rows.ensures.does;
    }
