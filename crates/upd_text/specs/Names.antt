-- Names and card references: their spelling.
use Rattle.std.specs.Prelude.{ℕ, ◌+◌, ◌-◌, ◌*◌, ◌^◌, ◌<◌, ◌==◌, nat_le, IsTrue, Bool, not, ◌&&◌, ◌||◌, if◌then◌else◌, [], ◌∷◌, ◌++◌, length, slice_index, codes}
use Rattle.std.specs.Prelude.{decimal, Option, Some, None}
use Rattle.std.specs.Str.{bytes_eq}
use Rattle.std.specs.List.{list_any, list_all, before_first, after_first}
use Rattle.upd_text.specs.declared.limits.TheConstants.{MAX_NAME_BYTES, MAX_NUMBER_DIGITS}
use Rattle.upd_text.specs.declared.card_ref.CardRef.{CardRef}
use Rattle.upd_text.specs.Units.{Byte, Bytes}

-- whether a number lies between two others
abbrev pub is_between : ℕ → ℕ → ℕ → Bool
is_between low high n = nat_le low n && nat_le n high

-- `0-9`
abbrev pub is_digit : Byte → Bool
is_digit b = is_between 48 57 b

-- `A-Z 0-9 + - * / ( ) $ =`
abbrev pub is_name_byte : Byte → Bool
is_name_byte b = is_between 65 90 b || is_digit b || list_any (λ c. c == b) (codes "+-*/()$=")

-- a name: 1 to 9 of these bytes, but not the single `*`
abbrev pub is_name : Bytes → Bool
is_name text = is_between 1 MAX_NAME_BYTES (length text) && list_all is_name_byte text && not (bytes_eq text (codes "*"))

-- the name of the deck of yank cards, which no ident may have
abbrev pub yank_name : Bytes
yank_name = codes "YANK$$$"

-- 1 to 6 digits without a leading zero
abbrev pub is_card_number : Bytes → Bool
is_card_number digits = is_between 1 MAX_NUMBER_DIGITS (length digits) && list_all is_digit digits && not (slice_index digits 0 == 48)

-- the number that digits spell when they follow the digits of n
abbrev pub number_behind : ℕ → Bytes → ℕ
number_behind n [] = n
number_behind n (digit ∷ digits) = number_behind (10 * n + (digit - 48)) digits

-- a point
abbrev pub is_point : Byte → Bool
is_point b = b == 46

-- a card reference: a name, a point and a card number
abbrev pub card_of : Bytes → Option CardRef
card_of field =
    if is_name (before_first is_point field) && is_card_number (after_first is_point field)
    then Some (record { name = before_first is_point field; number = number_behind 0 (after_first is_point field) })
    else None

-- how a card reference is written
abbrev pub card_text : CardRef → Bytes
card_text card = card.name ++ 46 ∷ decimal card.number

-- a name and a number that a card reference may have
abbrev pub IsReference : CardRef → Type 0
IsReference card = IsTrue (is_name card.name) × (0 < card.number) × (card.number < 10 ^ MAX_NUMBER_DIGITS)
