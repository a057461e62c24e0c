use Rattle.std.proofs.Common.{◌≡◌, List, true, sym, subst, rules}
use Rattle.std.specs.List.{AllByRecursion}
use Rattle.upd_row_store.specs.declared.shift.Shift.{Shift}
use Rattle.upd_row_store.specs.Shifts.{IsPiece, IsRight}
use Rattle.upd_row_store.proofs.shifts.shifts_of.Goals as goal

pub returns : goal.returns
returns c =
    let ms = c.args.moves.now in
    let yes : c.are_right.result ≡ true = search rules in
    let are = subst (AllByRecursion (IsPiece ms)) (sym c.deref-else-not-are_apart.ensures.value) c.in_ok-pieces.ensures in
    subst (λ (ss : List Shift). AllByRecursion (IsRight c.args.deck c.args.from ms ss) c.args.rows.now) c.deref-else-not-are_apart-2.ensures.value
    (c.are_right.ensures yes ms are)
