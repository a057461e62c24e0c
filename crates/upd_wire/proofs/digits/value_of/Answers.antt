use Rattle.upd_wire.proofs.Common.{arith, ◌<◌, ◌≤◌, ◌^◌, ℕ, lit<}
use Rattle.std.proofs.Math.Nat.{pow-le-pow_right}
use Rattle.upd_wire.proofs.digits.value_of.Goals as goal

below : (i n : ℕ) → i < 9 → n < 10 ^ i → n < 100000000
below i n h p = let most : 10 ^ i ≤ 10 ^ 8 = pow-le-pow_right {n = 10} (lit< tt) {i = i} {j = 8} (omega arith) in omega arith

pub overflow_mul-number : goal.overflow_mul-number
overflow_mul-number c =
    let small = below c.loop-digit.digit-index c.loop-digit.number (omega arith) c.loop-digit.invariant.1 in
    omega (arith, small)

pub overflow_add-number : goal.overflow_add-number
overflow_add-number c =
    let small = below c.loop-digit.digit-index c.loop-digit.number (omega arith) c.loop-digit.invariant.1 in
    omega (arith, small, c.from.ensures, c.type_inv.digits c.loop-digit.digit-index)
