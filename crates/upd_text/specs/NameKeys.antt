-- Names as pairs of numbers, which are compared faster than bytes.
use Rattle.std.specs.Prelude.{ℕ, ◌+◌, ◌-◌, ◌*◌, ◌++◌, get_or, length, replicate, take}
use Rattle.std.specs.Slice.Scan.{big_endian}
use Rattle.upd_text.specs.Units.{Bytes}

-- a name padded with zeros to nine bytes
abbrev pub padded : Bytes → Bytes
padded name = name ++ replicate (9 - length name) 0

-- the number that the first eight bytes spell
abbrev pub front : Bytes → ℕ
front name = big_endian 0 (take 8 (padded name))

-- the ninth byte, and the length
abbrev pub back : Bytes → ℕ
back name = get_or (padded name) 8 0 * 256 + length name
