-- Lists of warnings.
use Rattle.std.specs.Prelude.{ℕ, Bool, true, false, List, [], ◌∷◌, Option, Some, None}
use Rattle.std.specs.List.{filter}
use Rattle.upd_edit.specs.declared.warning.Warning.{Warning}
use Rattle.upd_edit.specs.declared.warning.WarningKind.{WarningKind}
use Rattle.upd_edit.specs.declared.warning.WarningKind.TheVariants.{Conflict}

-- a warning at a line, if there is one
abbrev pub found : ℕ → Option WarningKind → List Warning
found line None = []
found line (Some kind) = record { line = line; kind = kind } ∷ []

-- whether a warning is a conflict
abbrev pub is_conflict : WarningKind → Bool
is_conflict (Conflict met) = true
is_conflict _ = false

-- those of some warnings that are conflicts
abbrev pub conflicts_among : List Warning → List Warning
conflicts_among list = filter (λ w. is_conflict w.kind) list
