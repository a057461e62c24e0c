-- What fields say of a length, however they are joined; numbers in digits.
use Rattle.upd_wire.proofs.Common.{◌≡◌, ◌≤◌, ◌<◌, ◌+◌, ◌-◌, ◌*◌, ℕ, true, false, List, [], ◌∷◌, length, nat_lt, nat_le, refl, arith, nat_tests, list_all}
use Rattle.upd_wire.proofs.Common.{is_digit, number_behind, MAX_RUN_BYTES}
use Rattle.upd_wire.specs.Lengths.{length_said}
use Rattle.upd_wire.specs.declared.lengths.BodyLength.TheVariants.{Long}

-- digits behind a number make it no smaller
pub number_behind-least : (n : ℕ) (digits : List ℕ) → n ≤ number_behind n digits
number_behind-least n [] = omega arith
number_behind-least n (d ∷ digits) =
    let rest : 10 * n + (d - 48) ≤ number_behind (10 * n + (d - 48)) digits = number_behind-least (10 * n + (d - 48)) digits in
    omega arith

pub long-said : (text : List ℕ) → 0 < length text → list_all is_digit text ≡ true → MAX_RUN_BYTES < number_behind 0 text → length_said text ≡ Long
long-said text some digits long =
    let least : nat_lt 0 (length text) ≡ true = grind (arith, nat_tests) in
    let above : nat_le (number_behind 0 text) MAX_RUN_BYTES ≡ false = grind (arith, nat_tests) in
    rw (least, digits, above) refl
