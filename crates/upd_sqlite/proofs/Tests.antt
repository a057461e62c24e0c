-- The tests and sums of texts and of numbers that are not negative.
use Rattle.std.proofs.Common.{◌≡◌, ℕ, ◌+◌, ◌-◌, ◌<◌, ◌≤◌, ◌^◌, ◌==◌, nat_le, pos, ◌+ℤ◌, ◌-ℤ◌, Bool, true, false, ◌&&◌, List, Some, refl, ap, ap₂, ◌∙◌, arith}
use Rattle.std.proofs.Common.{int_cmp, is_eq, is_ge, is_le, bytes_eq, nat_lt}
use Rattle.std.proofs.lemmas.Bool.Decides.{nat_tests}
use Rattle.std.proofs.lemmas.Int.{ints}
use Rattle.std.proofs.lemmas.Map.Text.{is_eq-slice_cmp}
use Rattle.sqlite_value.specs.declared.keys.Collation.TheVariants.{Binary}
use Rattle.sqlite_value.specs.declared.value.Value.TheVariants.{Int, Text}
use Rattle.sqlite_value.proofs.OrderLemmas.{value_cmp-Int, value_cmp-Text}
use Rattle.sqlite_sql.specs.declared.ops.ArithOp.TheVariants.{Add, Sub}
use Rattle.sqlite_sql.specs.declared.ops.CompareOp.TheVariants.{Eq, Ge, Le}
use Rattle.sqlite_sql.specs.declared.ops.BinaryOp.TheVariants.{Arith, Compare}
use Rattle.sqlite_sql.specs.Ops.{binary, is_true, from_truth}

of_truth : (b : Bool) → is_true (from_truth (Some b)) ≡ b
of_truth true = refl
of_truth false = refl

pub eq_text : (a b : List ℕ) → is_true (binary (Compare Eq Binary) (Text a) (Text b)) ≡ bytes_eq a b
unfolding binary
eq_text a b = of_truth _ ∙ ap is_eq (value_cmp-Text a b) ∙ is_eq-slice_cmp a b

same_cmp : (a b : ℕ) → is_eq (int_cmp (pos a) (pos b)) ≡ (a == b)
same_cmp a b = grind (arith, ints, nat_tests)

above_cmp : (a b : ℕ) → is_ge (int_cmp (pos a) (pos b)) ≡ nat_le b a
above_cmp a b = grind (arith, ints, nat_tests)

below_cmp : (a b : ℕ) → is_le (int_cmp (pos a) (pos b)) ≡ nat_le a b
below_cmp a b = grind (arith, ints, nat_tests)

pub eq_nat : (a b : ℕ) → is_true (binary (Compare Eq Binary) (Int (pos a)) (Int (pos b))) ≡ (a == b)
unfolding binary
eq_nat a b = of_truth _ ∙ ap is_eq (value_cmp-Int (pos a) (pos b)) ∙ same_cmp a b

pub ge_nat : (a b : ℕ) → is_true (binary (Compare Ge Binary) (Int (pos a)) (Int (pos b))) ≡ nat_le b a
unfolding binary
ge_nat a b = of_truth _ ∙ ap is_ge (value_cmp-Int (pos a) (pos b)) ∙ above_cmp a b

pub le_nat : (a b : ℕ) → is_true (binary (Compare Le Binary) (Int (pos a)) (Int (pos b))) ≡ nat_le a b
unfolding binary
le_nat a b = of_truth _ ∙ ap is_le (value_cmp-Int (pos a) (pos b)) ∙ below_cmp a b

low : (n : ℕ) → n < 2 ^ 63 → nat_lt n (2 ^ 63) ≡ true
low n h = grind (arith, nat_tests)

sum_of : (a b : ℕ) → pos a +ℤ pos b ≡ pos (a + b)
sum_of a b = omega (arith, ints)

rest_of : (a b : ℕ) → b ≤ a → pos a -ℤ pos b ≡ pos (a - b)
rest_of a b h = omega (arith, ints)

pub add_nat : (a b : ℕ) → a + b < 2 ^ 63 → binary (Arith Add) (Int (pos a)) (Int (pos b)) ≡ Int (pos (a + b))
unfolding binary
add_nat a b h = rw (sum_of a b, low (a + b) h) refl

pub sub_nat : (a b : ℕ) → b ≤ a → a < 2 ^ 63 → binary (Arith Sub) (Int (pos a)) (Int (pos b)) ≡ Int (pos (a - b))
unfolding binary
sub_nat a b h k = rw (rest_of a b h, low (a - b) (omega arith)) refl

-- ---- tests of a row together

pub one_test : {a p : Bool} → a ≡ p → (a && true) ≡ p
one_test {a} {p} e = and_true a ∙ e
  where
    and_true : (b : Bool) → (b && true) ≡ b
    and_true true = refl
    and_true false = refl

pub two_tests : {a b p q : Bool} → a ≡ p → b ≡ q → (a && (b && true)) ≡ (p && q)
two_tests d e = ap₂ ◌&&◌ d (one_test e)

pub three_tests : {a b c p q r : Bool} → a ≡ p → b ≡ q → c ≡ r → (a && (b && (c && true))) ≡ (p && (q && r))
three_tests d e f = ap₂ ◌&&◌ d (two_tests e f)
