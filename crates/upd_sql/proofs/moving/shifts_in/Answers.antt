use Rattle.upd_sql.proofs.Common.{◌≡◌, filter, subst, ◌∙◌, state, AllByRecursion, List, CardRow}
use Rattle.std.proofs.Common.{IfSome}
use Rattle.upd_row_store.specs.Shifts.{IsRight, is_behind}
use Rattle.upd_sql.specs.Moving.{AllRight}
use Rattle.upd_row_store.proofs.PlanLemmas.{all_right}
use Rattle.upd_sql.proofs.WholeLemmas.{looks_as}
use Rattle.upd_sql.proofs.TogetherLemmas.{on_some}
use Rattle.upd_sql.proofs.moving.shifts_in.Goals as goal

pub returns-then-are_behind : goal.returns-then-are_behind
returns-then-are_behind g c =
    let deck = c.args.deck in
    let from = c.args.from in
    let ms = c.args.moves.now in
    let old = state g.S.Store c.args.tx.now.conn.now in
    let new = state g.S.Store c.cards_behind.new.tx.conn.now in
    let rows = c.in_ok-rows.rows in
    let low = c.are_behind.ensures c.if-are_behind.true in
    record {
      same_reference = c.in_ok-rows.ensures.same_reference;
      does =
          looks_as (λ it found. found.items ≡ filter (is_behind deck from) it.cards)
          (λ it found. IfSome found (λ shifts. AllRight deck from ms shifts.items it))
          old new rows c.shifts_of.result
          (λ it is. on_some c.shifts_of.result c.shifts_of.ensures
          (λ shifts right. all_right deck from ms shifts.items it.cards low
          (subst (λ (rs : List CardRow). AllByRecursion (IsRight deck from ms shifts.items) rs) (c.deref.ensures.value ∙ is) right)))
          c.in_ok-rows.ensures.does;
    }
