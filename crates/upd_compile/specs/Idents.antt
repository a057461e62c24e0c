-- Idents by serial.
use Rattle.std.specs.Prelude.{ℕ, ◌-◌, ◌==◌, Bool, false, if◌then◌else◌, List, slice_get, Option, None}
use Rattle.std.specs.Option.{option_map_or}
use Rattle.upd_core.specs.declared.ident.Ident.{Ident}

-- the ident with a serial: serial n is at index n - 1 of the directory
abbrev pub ident_at : List Ident → ℕ → Option Ident
ident_at idents age = if age == 0 then None else slice_get idents (age - 1)

-- whether a test holds of the ident with a serial
abbrev pub passes : (Ident → Bool) → List Ident → ℕ → Bool
passes test idents age = option_map_or test (ident_at idents age) false
