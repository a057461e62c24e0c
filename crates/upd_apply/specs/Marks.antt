-- Flags by serial for the targets "set z", where z is any ident.
use Rattle.std.specs.Prelude.{◌≡◌, ℕ, Bool, false, List, slice_index_or}
use Rattle.std.specs.List.{list_any}
use Rattle.upd_core.specs.declared.target.Target.{Target}
use Rattle.upd_core.specs.declared.target.Target.TheVariants.{Set}
use Rattle.upd_core.specs.Targets.{is_same}

-- the flag of a serial; false past the last flag
abbrev pub has_set : List Bool → ℕ → Bool
has_set marks z = slice_index_or marks z false

-- the flag of z is set exactly where "set z" is among the targets
abbrev pub AreMarked : List Bool → List Target → Type 0
AreMarked marks found = (z : ℕ) → has_set marks z ≡ list_any (λ t. is_same t (Set z)) found
