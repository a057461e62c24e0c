-- Moves in many decks that are made at once.
use Rattle.std.specs.Prelude.{◌≡◌, List, [], ◌∷◌}
use Rattle.upd_records.specs.Changes.{ChangeView, done_all}
use Rattle.upd_records.specs.Rows.{Rows}
use Rattle.upd_row_store.specs.declared.plans.DeckPlan.{DeckPlan}
use Rattle.upd_sql.specs.Moving.{AllCanShift, with_all_shifted}

-- the tables after the shifts of plans in order
abbrev pub with_plans : List DeckPlan → Rows → Rows
with_plans [] rows = rows
with_plans (p ∷ ps) rows = with_plans ps (with_all_shifted p.deck p.from p.shifts.items rows)

-- each shift of the plans can be made in the tables that those before it leave
abbrev pub AllCanPlan : List DeckPlan → Rows → Type 0
AllCanPlan [] rows = Unit {0}
AllCanPlan (p ∷ ps) rows = AllCanShift p.deck p.from p.shifts.items rows × AllCanPlan ps (with_all_shifted p.deck p.from p.shifts.items rows)

-- plans can be made, and do to the tables what changes do
pub record DoAsPlanned (ps : List DeckPlan) (cs : List ChangeView) (rows : Rows) : Type 0 where
  pub can : AllCanPlan ps rows
  pub same : with_plans ps rows ≡ done_all cs rows
