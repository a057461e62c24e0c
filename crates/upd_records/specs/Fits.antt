-- Which row changes a store can carry out on its tables.
use Rattle.std.specs.Prelude.{ℕ, ◌+◌, ◌^◌, ◌<◌, ◌≤◌, ◌==◌, nat_le, ℤ, pos, negsuc, ◌&&◌, IsTrue, List, [], ◌∷◌}
use Rattle.std.specs.List.{AllByRecursion}
use Rattle.upd_records.specs.Rows.{Rows}
use Rattle.upd_records.specs.Changes.{ChangeView, IdentNew, IdentPurged, CardNew, CardGone, CardsMoved, EntryNew, EntriesGone, TargetNew, TargetsGone}
use Rattle.upd_records.specs.Changes.{StatusNow, CountNow, done}

-- a position can be moved by a signed distance: the new one is not negative, and both are numbers of 32 bits
abbrev pub CanMove : ℤ → ℕ → Type 0
CanMove (pos n) p = p + n < 2 ^ 32
CanMove (negsuc n) p = (n + 1 ≤ p) × (p < 2 ^ 32)

-- a change moves no card to a position that isn't valid
abbrev pub Fits : ChangeView → Rows → Type 0
Fits (CardsMoved deck from by) rows = AllByRecursion (λ r. IsTrue ((r.deck == deck) && nat_le from r.pos) → CanMove by r.pos) rows.cards
Fits (IdentNew i) rows = Unit {0}
Fits (IdentPurged age) rows = Unit {0}
Fits (CardNew card deck p body) rows = Unit {0}
Fits (CardGone card) rows = Unit {0}
Fits (EntryNew card ord entry) rows = Unit {0}
Fits (EntriesGone card) rows = Unit {0}
Fits (TargetNew card ord target) rows = Unit {0}
Fits (TargetsGone card targets) rows = Unit {0}
Fits (StatusNow card active) rows = Unit {0}
Fits (CountNow target n) rows = Unit {0}

-- each change fits the tables that the changes before it leave
abbrev pub AllFit : List ChangeView → Rows → Type 0
AllFit [] rows = Unit {0}
AllFit (c ∷ cs) rows = Fits c rows × AllFit cs (done c rows)
