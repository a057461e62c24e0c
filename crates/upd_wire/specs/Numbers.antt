-- Numbers as they are written.
use Rattle.std.specs.Prelude.{ℕ, ◌==◌, Bool, not, ◌&&◌, ◌||◌, if◌then◌else◌, List, length, slice_index, Option, Some, None}
use Rattle.std.specs.List.{list_all}
use Rattle.upd_text.specs.Names.{is_between, is_digit, number_behind}
use Rattle.upd_wire.specs.declared.digits.TheConstants.{MAX_DIGITS}

-- `0`, or 1 to 9 digits without a leading zero
abbrev pub is_number : List ℕ → Bool
is_number digits =
    is_between 1 MAX_DIGITS (length digits) && list_all is_digit digits && (not (slice_index digits 0 == 48) || (length digits == 1))

-- the number that digits spell
abbrev pub number_of : List ℕ → Option ℕ
number_of digits = if is_number digits then Some (number_behind 0 digits) else None
