-- The words for the modes, on command lines and in arrivals.
use Rattle.std.specs.Prelude.{ℕ, if◌then◌else◌, List, codes, Option, Some, None}
use Rattle.std.specs.Str.{bytes_eq}
use Rattle.upd_compile.specs.declared.mode.Mode.{Mode}
use Rattle.upd_compile.specs.declared.mode.Mode.TheVariants.{Full, Quick, Normal}

-- the mode of a word: `full`, `quick` or `normal`
abbrev pub mode_named : List ℕ → Option Mode
mode_named word =
    if bytes_eq word (codes "full") then Some Full
    else if bytes_eq word (codes "quick") then Some Quick
    else if bytes_eq word (codes "normal") then Some Normal
    else None
