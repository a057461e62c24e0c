-- Plans of moves in many decks.
use Rattle.std.specs.Prelude.{ℕ, ◌+◌, ◌≤◌, List, [], ◌∷◌, map}
use Rattle.std.specs.List.{AllByRecursion}
use Rattle.upd_records.specs.Changes.{ChangeView}
use Rattle.upd_records.specs.Rows.{CardRow}
use Rattle.upd_row_store.specs.declared.plans.DeckPlan.{DeckPlan}
use Rattle.upd_row_store.specs.Shifts.{IsRight, as_change}

-- the changes that a plan is for
abbrev pub planned : DeckPlan → List ChangeView
planned p = map (as_change p.deck) p.moves.items

-- A plan's shifts do to each row what its moves do, and no move is before its place.
pub record IsPlan (rows : List CardRow) (p : DeckPlan) : Type 0 where
  pub right : AllByRecursion (IsRight p.deck p.from p.moves.items p.shifts.items) rows
  pub low : AllByRecursion (λ m. p.from ≤ m.from) p.moves.items

-- plans are of one deck after another, none with a serial below the least
abbrev pub DecksRise : ℕ → List DeckPlan → Type 0
DecksRise least [] = Unit {0}
DecksRise least (p ∷ ps) = (least ≤ p.deck) × DecksRise (p.deck + 1) ps
