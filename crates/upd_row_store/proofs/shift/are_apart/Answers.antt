use Rattle.std.proofs.Common.{◌≡◌, [], None, arith, drop, subst, sym}
use Rattle.std.proofs.lemmas.Grind.{common_steps}
use Rattle.upd_row_store.specs.Shifts.{IsChain}
use Rattle.upd_row_store.proofs.ShiftLemmas.{chain_apart}
use Rattle.upd_row_store.proofs.shift.are_apart.Goals as goal

pub returns : goal.returns
returns c is =
    let rest : drop c.loop-shift.shift-index c.args.shifts.now ≡ [] = grind (arith, common_steps, c.loop-shift-test.false) in
    chain_apart None c.args.shifts.now (c.loop-shift.invariant (subst (IsChain c.loop-shift.last) (sym rest) tt))
