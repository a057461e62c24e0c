use Rattle.upd_sql.proofs.Common.{List, Ok, subst, ◌∙◌, state, Makes, HoldsTables}
use Rattle.std.proofs.Common.{IfSome}
use Rattle.upd_row_store.specs.declared.shift.Shift.{Shift}
use Rattle.upd_sql.specs.Moving.{AllCanShift, AllRight, with_all_shifted}
use Rattle.upd_sql.proofs.WholeLemmas.{looks_as}
use Rattle.upd_sql.proofs.TogetherLemmas.{made_together}
use Rattle.upd_sql.proofs.moving.move_together.Goals as goal

pub returns-in_ok-move_shifts-in-Some : goal.returns-in_ok-move_shifts-in-Some
returns-in_ok-move_shifts-in-Some g c =
    let deck = c.args.deck in
    let from = c.args.from in
    let ms = c.args.moves.now in
    let shifts = c.in-Some.shifts in
    let old = state g.S.Store c.args.tx.now.conn.now in
    let mid = state g.S.Store c.shifts_in.new.tx.conn.now in
    let new = state g.S.Store c.move_shifts.new.tx.conn.now in
    let y = c.in_ok-move_shifts-in-Some.field-0 in
    let looks = looks_as (λ it found. IfSome found (λ ss. AllRight deck from ms ss.items it)) (λ it found. AllRight deck from ms found it) old mid
    c.in_ok-shifts.field-0 shifts.items
    (λ it h. subst (λ o. IfSome o (λ ss. AllRight deck from ms ss.items it)) c.in-Some.is h) c.in_ok-shifts.ensures.does in
    let made = subst (λ (ss : List Shift). Makes HoldsTables (AllCanShift deck from ss) (with_all_shifted deck from ss) mid new (Ok y))
    c.deref.ensures.value c.in_ok-move_shifts-in-Some.ensures.does in
    record {
      same_reference = c.in_ok-move_shifts-in-Some.ensures.same_reference ∙ c.in_ok-shifts.ensures.same_reference;
      does = made_together deck from ms shifts.items old mid new y looks made;
    }
