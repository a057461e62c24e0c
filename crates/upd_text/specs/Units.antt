-- Names for numbers and lists of numbers, by what they count.
use Rattle.std.specs.Prelude.{ℕ, List}

-- a byte
abbrev pub Byte : Type 0
Byte = ℕ

-- bytes in order, as of a line, a field, a name or a text
abbrev pub Bytes : Type 0
Bytes = List Byte

-- the number of a card among those of its ident
abbrev pub Number : Type 0
Number = ℕ

-- the number of a line in its run
abbrev pub LineNumber : Type 0
LineNumber = ℕ
