-- Texts of a file that somebody else made, as lines for people have them.
use Rattle.std.specs.Prelude.{◌==◌, nat_le, Bool, ◌&&◌, ◌||◌, if◌then◌else◌, map}
use Rattle.upd_text.specs.Units.{Byte, Bytes}

-- whether a byte is printable ASCII, or the one that is kept besides
abbrev pub is_printed : Byte → Byte → Bool
is_printed kept b = (nat_le 32 b && nat_le b 126) || (b == kept)

-- a text, with `?` for each other byte
abbrev pub printed : Byte → Bytes → Bytes
printed kept text = map (λ b. if is_printed kept b then b else 63) text

-- a field of a line
abbrev pub printed_field : Bytes → Bytes
printed_field field = printed 32 field

-- the text of a card, in which tabs stay
abbrev pub printed_text : Bytes → Bytes
printed_text text = printed 9 text
