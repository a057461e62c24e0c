use Rattle.std.proofs.Common.{length, refl}
use Rattle.std.proofs.lemmas.Bool.{and_parts}
use Rattle.std.proofs.lemmas.Option.{slice_get_read}
use Rattle.upd_row_store.proofs.ShiftLemmas.{right_by}
use Rattle.upd_row_store.proofs.right.is_right_by.Goals as goal

pub returns-in-Some : goal.returns-in-Some
returns-in-Some c is = λ moves are.
    let shifts = c.args.shifts.now in
    let lookup = c.in-Some.ensures.lookup in
    let at = slice_get_read shifts (length shifts) c.saturating_sub.result c.in-Some.shift.now refl lookup.3.0 lookup.1 in
    let behind = and_parts _ _ (c.is_right.ensures.behind is) in
    right_by c.args.deck c.args.from moves shifts c.saturating_sub.result c.in-Some.shift.now c.args.row.now at
    c.requires behind.0 behind.1 (c.is_right.ensures.covers is) (c.is_right.ensures.can is) (c.is_right.ensures.same is moves are)
