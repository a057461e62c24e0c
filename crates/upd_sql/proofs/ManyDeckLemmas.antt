-- Plans one after another do to the tables what the moves of many decks do.
use Rattle.upd_sql.proofs.Common.{◌≡◌, ℕ, ◌+◌, List, [], ◌∷◌, ◌++◌, map, Ok, refl, sym, ap, subst, ◌∙◌, arith, AllByRecursion, State, CardRow, Rows, done_all}
use Rattle.upd_sql.proofs.Common.{ChangeView, HoldsTables, Makes, Result, Error}
use Rattle.std.proofs.Common.{IfSome, None, Option, Some}
use Rattle.std.specs.List.{flat_map}
use Rattle.upd_row_store.specs.declared.plans.DeckPlan.{DeckPlan}
use Rattle.upd_row_store.specs.Plans.{DecksRise, IsPlan, planned}
use Rattle.upd_row_store.specs.Shifts.{moved_all}
use Rattle.upd_row_store.proofs.PlanLemmas.{plans_still}
use Rattle.upd_sql.proofs.Typed.{makes_more}
use Rattle.upd_sql.proofs.TogetherLemmas.{all_moved, done_parts, together}
use Rattle.upd_sql.specs.ManyDecks.{AllCanPlan, DoAsPlanned, with_plans}
use Rattle.upd_sql.specs.Moving.{AllCanShift, with_all_shifted}

can_push : (ps : List DeckPlan) (p : DeckPlan) (it : Rows) → AllCanPlan (ps ++ p ∷ []) it
    → AllCanPlan ps it × AllCanShift p.deck p.from p.shifts.items (with_plans ps it)
can_push [] p it h = (tt, h.0)
can_push (q ∷ ps) p it h = let more = can_push ps p (with_all_shifted q.deck q.from q.shifts.items it) h.1 in ((h.0, more.0), more.1)

plans_push : (ps : List DeckPlan) (p : DeckPlan) (it : Rows)
    → with_all_shifted p.deck p.from p.shifts.items (with_plans ps it) ≡ with_plans (ps ++ p ∷ []) it
plans_push [] p it = refl
plans_push (q ∷ ps) p it = plans_push ps p (with_all_shifted q.deck q.from q.shifts.items it)

pub one_planned : {X Y : Type 0} (ps : List DeckPlan) (p : DeckPlan) {a b c : State} {x : X} {r : Result Y Error}
    → Makes HoldsTables (AllCanPlan ps) (with_plans ps) a b (Ok x)
    → Makes HoldsTables (AllCanShift p.deck p.from p.shifts.items) (with_all_shifted p.deck p.from p.shifts.items) b c r
    → Makes HoldsTables (AllCanPlan (ps ++ p ∷ [])) (with_plans (ps ++ p ∷ [])) a c r
one_planned ps p before after = makes_more (can_push ps p) (plans_push ps p) before after

all_planned : (ps : List DeckPlan) (least : ℕ) (it : Rows) → DecksRise least ps → AllByRecursion (IsPlan it.cards) ps
    → AllCanPlan ps it × (with_plans ps it ≡ done_all (flat_map planned ps) it)
all_planned [] least it rise h = (tt, refl)
all_planned (p ∷ ps) least it rise h =
    let one = together p.deck p.from p.moves.items p.shifts.items it h.0.right in
    let next : Rows = done_all (planned p) it in
    let cards : next.cards ≡ map (moved_all p.deck p.moves.items) it.cards = ap (λ (rows : Rows). rows.cards) (all_moved p.deck p.from p.moves.items it) in
    let still = subst (λ (rs : List CardRow). AllByRecursion (IsPlan rs) ps) (sym cards)
    (plans_still p.deck p.moves.items it.cards ps (p.deck + 1) (omega arith) rise.1 h.1) in
    let rest = all_planned ps (p.deck + 1) next rise.1 still in (
      (one.0, subst (AllCanPlan ps) (sym one.1) rest.0),
      ap (with_plans ps) one.1 ∙ rest.1 ∙ done_parts (planned p) (flat_map planned ps) it,
    )

pub do_as_planned : (ps : List DeckPlan) (cs : List ChangeView) (it : Rows) → DecksRise 0 ps → AllByRecursion (IsPlan it.cards) ps → flat_map planned ps ≡ cs
    → DoAsPlanned ps cs it
do_as_planned ps cs it rise h whole =
    let all = all_planned ps 0 it rise h in record { can = all.0; same = all.1 ∙ ap (λ changes. done_all changes it) whole }

pub on_all : {A : Type 0} {P Q R S : A → Type 0} (o : Option A) → IfSome o P → IfSome o Q → IfSome o R → ((x : A) → P x → Q x → R x → S x) → IfSome o S
on_all None p q r f = tt
on_all (Some x) p q r f = f x p q r
