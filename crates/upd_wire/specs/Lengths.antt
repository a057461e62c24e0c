-- How long a body is, by the fields of a head.
use Rattle.std.specs.Prelude.{ℕ, nat_lt, nat_le, Bool, ◌&&◌, if◌then◌else◌, List, [], ◌∷◌, length, map, codes}
use Rattle.std.specs.Char.{to_ascii_lowercase}
use Rattle.std.specs.List.{list_all}
use Rattle.std.specs.Str.{bytes_eq}
use Rattle.upd_text.specs.Names.{is_digit, number_behind}
use Rattle.upd_text.specs.declared.limits.TheConstants.{MAX_RUN_BYTES}
use Rattle.upd_wire.specs.declared.lengths.BodyLength.{BodyLength}
use Rattle.upd_wire.specs.declared.lengths.BodyLength.TheVariants.{Absent, Bytes, Long, Bad}

-- the number that these bytes spell in digits, unless they are not a number or it is above the limit
abbrev pub length_said : List ℕ → BodyLength
length_said text =
    if nat_lt 0 (length text) && list_all is_digit text
    then (if nat_le (number_behind 0 text) MAX_RUN_BYTES then Bytes (number_behind 0 text) else Long)
    else Bad

-- whether a name is this word, without regard to case
abbrev pub is_named : List ℕ → List ℕ → Bool
is_named word name = bytes_eq (map to_ascii_lowercase name) (map to_ascii_lowercase word)

-- what a field, a name and a value, says of the length: `Transfer-Encoding` is not understood
abbrev pub field_says : List ℕ × List ℕ → BodyLength
field_says field =
    if is_named (codes "transfer-encoding") field.0
    then Bad
    else (if is_named (codes "content-length") field.0 then length_said field.1 else Absent)

-- what two parts of a head say together: a length stands once at most
abbrev pub both_say : BodyLength → BodyLength → BodyLength
both_say Absent other = other
both_say one Absent = one
both_say one other = Bad

-- what the fields of a head say
abbrev pub fields_say : List (List ℕ × List ℕ) → BodyLength
fields_say [] = Absent
fields_say (field ∷ fields) = both_say (field_says field) (fields_say fields)
