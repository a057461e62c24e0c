-- The sums at the ends of pages.
use Rattle.std.specs.Prelude.{◌≡◌, ℕ, ◌-◌, false, List, ◌++◌, drop, length, take}
use Rattle.std.specs.Int.{to_le_bytes, w32}
use Rattle.sqlite_wal.specs.Format.{checksum}

-- the two sums of a list of bytes, each of 32 bits
abbrev pub sum_bytes : List ℕ → List ℕ
sum_bytes bytes = to_le_bytes w32 (checksum false (0, 0) bytes).0 ++ to_le_bytes w32 (checksum false (0, 0) bytes).1

-- a page ends in the sum of the bytes before
abbrev pub IsSummed : List ℕ → Type 0
IsSummed page = drop (length page - 8) page ≡ sum_bytes (take (length page - 8) page)
