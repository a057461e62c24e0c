use Rattle.std.proofs.Common.{◌≡◌, ◌+◌, ◌∷◌, [], true, arith, sym, ap, subst, ◌∙◌, drop, rules}
use Rattle.std.proofs.lemmas.Grind.{common_steps}
use Rattle.std.specs.List.{AllByRecursion}
use Rattle.upd_core.proofs.Common.{drop_more}
use Rattle.upd_row_store.specs.Shifts.{IsRight}
use Rattle.upd_row_store.proofs.right.are_right.Goals as goal

pub loop-row-preserved : goal.loop-row-preserved
loop-row-preserved c = λ moves are rest.
    let rows = c.args.rows.now in
    let k = c.loop-row.row-index in
    let row = c.row-item.result in
    let split : drop k rows ≡ row ∷ drop (k + 1) rows =
    drop_more rows k row c.loop-row-test.true ∙ ap (λ r. r ∷ drop (k + 1) rows) (sym c.row-item.is) in
    let yes : c.is_right_by.result ≡ true = search rules in
    c.loop-row.invariant moves are
    (subst (AllByRecursion (IsRight c.args.deck c.args.from moves c.args.shifts.now)) (sym split) (c.is_right_by.ensures yes moves are, rest))

pub returns : goal.returns
returns c = λ is moves are.
    let rest : drop c.loop-row.row-index c.args.rows.now ≡ [] = grind (arith, common_steps, c.loop-row-test.false) in
    c.loop-row.invariant moves are (subst (AllByRecursion (IsRight c.args.deck c.args.from moves c.args.shifts.now)) (sym rest) tt)
