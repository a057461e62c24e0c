-- What identifies an ident.
use Rattle.std.specs.Prelude.{ℕ}

-- the serial of an ident, from 1 for the first that was introduced; 0 is that of `YANK$$$`
abbrev pub Serial : Type 0
Serial = ℕ
