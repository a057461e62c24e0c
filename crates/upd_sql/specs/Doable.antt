-- Which row changes statements can carry out, where it may be known which cards they move.
use Rattle.std.specs.Prelude.{ℕ, List, Option, Some, None}
use Rattle.std.specs.BTreeMap.{BTreeMap}
use Rattle.upd_records.specs.Changes.{ChangeView}
use Rattle.upd_records.specs.Fits.{AllFit, Fits}
use Rattle.upd_records.specs.Rows.{Rows}
use Rattle.upd_row_store.specs.Movable.{AllMoveListed, MovesListed}

-- a change fits the tables and, where there is a list, moves only cards that are listed
abbrev pub CanBeDone : Option (BTreeMap (List ℕ) ℕ) → ChangeView → Rows → Type 0
CanBeDone None c rows = Fits c rows
CanBeDone (Some movable) c rows = Fits c rows × MovesListed movable c rows

-- the same of changes in order, each in the tables that those before it leave
abbrev pub AllCanBeDone : Option (BTreeMap (List ℕ) ℕ) → List ChangeView → Rows → Type 0
AllCanBeDone None cs rows = AllFit cs rows
AllCanBeDone (Some movable) cs rows = AllFit cs rows × AllMoveListed movable cs rows
