-- Changes and shifts one after another, and shifts that do to the tables what moves do, where they do so to each row.
use Rattle.upd_sql.proofs.Common.{◌≡◌, ℕ, ◌+◌, ◌<◌, true, List, [], ◌∷◌, ◌++◌, map, take, length, get_or, Result, Ok, None, Some, refl, sym, ap, subst, ◌∙◌}
use Rattle.upd_sql.proofs.Common.{AllByRecursion, all_weaker, map-append, map-map, take_more, Error, State, Rows, done, done_all, change_view, ChangeView}
use Rattle.upd_sql.proofs.Common.{AllCanBeDone, HoldsTables, Makes, clean_before, steps_then, BTreeMap}
use Rattle.std.proofs.Common.{Option, IfSome}
use Rattle.sqlite_keyed.proofs.ListLemmas.{all_map}
use Rattle.upd_core.specs.declared.change.Change.{Change}
use Rattle.upd_records.specs.Changes.{moved_row}
use Rattle.upd_records.specs.Fits.{AllFit}
use Rattle.upd_row_store.specs.Movable.{AllMoveListed}
use Rattle.upd_row_store.specs.declared.moves.Move.{Move}
use Rattle.upd_row_store.specs.declared.shift.Shift.{Shift}
use Rattle.upd_row_store.specs.Shifts.{CanShift, CanShiftAll, as_change, moved_all, shifted_all, shifted_row, with_shifted}
use Rattle.upd_sql.proofs.Typed.{makes_more, mapped_each}
use Rattle.upd_sql.specs.Commits.{Looks}
use Rattle.upd_sql.specs.Doable.{CanBeDone}
use Rattle.upd_sql.specs.Moving.{AllCanShift, AllRight, MakesIf, with_all_shifted}

mapped_id : {A : Type 0} (xs : List A) → map (λ x. x) xs ≡ xs
mapped_id [] = refl
mapped_id (x ∷ xs) = ap (λ l. x ∷ l) (mapped_id xs)

-- what was found can be made, and does what is wanted
pub made_found : {X Y : Type 0} (Can : Rows → Type 0) (change wanted : Rows → Rows) (a b c : State) (x : X) (y : Y)
    → Looks {X = X} (λ it found. Can it × (change it ≡ wanted it)) a b (Ok x) → Makes {X = Y} HoldsTables Can change b c (Ok y) → MakesIf wanted a c (Ok true)
made_found Can change wanted a b c x y looks q = record {
  steps = let all = steps_then a b c x (Ok y) looks.steps q.steps in record { going = all.going; kept = all.kept; survives = all.survives };
  made = λ clean inside it h.
      let early = clean_before b c _ q.steps.survives clean in
      let held : HoldsTables it b.now = subst (HoldsTables it) (sym (looks.same early h.schema_is)) h in
      let all = looks.found early it h in
      subst (λ rows. HoldsTables rows c.now) all.1 (q.made clean (looks.steps.going early inside) it all.0 held);
}

-- ---- one shift after another

module _ (deck from : ℕ) where
  can_push : (ss : List Shift) (s : Shift) (it : Rows) → AllCanShift deck from (ss ++ s ∷ []) it
      → AllCanShift deck from ss it × CanShift deck from s (with_all_shifted deck from ss it)
  can_push [] s it h = (tt, h.0)
  can_push (t ∷ ss) s it h = let more = can_push ss s (with_shifted deck from t it) h.1 in ((h.0, more.0), more.1)

  shifted_push : (ss : List Shift) (s : Shift) (it : Rows)
      → with_shifted deck from s (with_all_shifted deck from ss it) ≡ with_all_shifted deck from (ss ++ s ∷ []) it
  shifted_push [] s it = refl
  shifted_push (t ∷ ss) s it = shifted_push ss s (with_shifted deck from t it)

  pub one_shifted : {X Y : Type 0} (ss : List Shift) (s : Shift) {a b c : State} {x : X} {r : Result Y Error}
      → Makes HoldsTables (AllCanShift deck from ss) (with_all_shifted deck from ss) a b (Ok x)
      → Makes HoldsTables (CanShift deck from s) (with_shifted deck from s) b c r
      → Makes HoldsTables (AllCanShift deck from (ss ++ s ∷ [])) (with_all_shifted deck from (ss ++ s ∷ [])) a c r
  one_shifted ss s p q = makes_more (can_push ss s) (shifted_push ss s) p q

  -- ---- row by row

  all_can : (ss : List Shift) (it : Rows) → AllByRecursion (CanShiftAll deck from ss) it.cards → AllCanShift deck from ss it
  all_can [] it h = tt
  all_can (s ∷ ss) it h = (
    all_weaker _ _ (λ r can. can.0) it.cards h,
    all_can ss (with_shifted deck from s it)
        (all_map (CanShiftAll deck from ss) (shifted_row deck from s) it.cards (all_weaker _ _ (λ r can. can.1) it.cards h)),
  )

  all_shifted : (ss : List Shift) (it : Rows) → with_all_shifted deck from ss it ≡ record it { cards = map (shifted_all deck from ss) it.cards }
  all_shifted [] it = ap (λ cards. record it { cards = cards }) (sym (mapped_id it.cards))
  all_shifted (s ∷ ss) it =
      all_shifted ss (with_shifted deck from s it)
      ∙ ap (λ cards. record it { cards = cards }) (map-map (shifted_all deck from ss) (shifted_row deck from s) it.cards)

  pub all_moved : (ms : List Move) (it : Rows) → done_all (map (as_change deck) ms) it ≡ record it { cards = map (moved_all deck ms) it.cards }
  all_moved [] it = ap (λ cards. record it { cards = cards }) (sym (mapped_id it.cards))
  all_moved (m ∷ ms) it =
      all_moved ms (done (as_change deck m) it)
      ∙ ap (λ cards. record it { cards = cards }) (map-map (moved_all deck ms) (moved_row deck m.from m.by) it.cards)

  module _ (ms : List Move) (ss : List Shift) where
    pub together : (it : Rows) → AllRight deck from ms ss it
        → AllCanShift deck from ss it × (with_all_shifted deck from ss it ≡ done_all (map (as_change deck) ms) it)
    together it right = (
      all_can ss it (all_weaker _ _ (λ r is. is.can) it.cards right),
      all_shifted ss it
          ∙ ap (λ cards. record it { cards = cards })
          (mapped_each (shifted_all deck from ss) (moved_all deck ms) it.cards (all_weaker _ _ (λ r is. is.same) it.cards right))
          ∙ sym (all_moved ms it),
    )

    -- ---- steps of a transaction

    pub made_together : {Y : Type 0} (a b c : State) (y : Y) → Looks {X = List Shift} (λ it found. AllRight deck from ms found it) a b (Ok ss)
        → Makes {X = Y} HoldsTables (AllCanShift deck from ss) (with_all_shifted deck from ss) b c (Ok y)
        → MakesIf (done_all (map (as_change deck) ms)) a c (Ok true)
    made_together a b c y looks q = made_found (AllCanShift deck from ss) (with_all_shifted deck from ss) (done_all (map (as_change deck) ms)) a b c ss y
        (record { steps = looks.steps; was_open = looks.was_open; same = looks.same; found = λ clean it h. together it (looks.found clean it h) }) q

pub on_some : {A : Type 0} {P Q : A → Type 0} (o : Option A) → IfSome o P → ((x : A) → P x → Q x) → IfSome o Q
on_some None h f = tt
on_some (Some x) h f = f x h

-- ---- changes part by part

fits_parts : (cs ds : List ChangeView) (it : Rows) → AllFit (cs ++ ds) it → AllFit cs it × AllFit ds (done_all cs it)
fits_parts [] ds it h = (tt, h)
fits_parts (c ∷ cs) ds it h = let more = fits_parts cs ds (done c it) h.1 in ((h.0, more.0), more.1)

listed_parts : (movable : BTreeMap (List ℕ) ℕ) (cs ds : List ChangeView) (it : Rows) → AllMoveListed movable (cs ++ ds) it
    → AllMoveListed movable cs it × AllMoveListed movable ds (done_all cs it)
listed_parts movable [] ds it h = (tt, h)
listed_parts movable (c ∷ cs) ds it h = let more = listed_parts movable cs ds (done c it) h.1 in ((h.0, more.0), more.1)

can_parts : (movable : Option (BTreeMap (List ℕ) ℕ)) (cs ds : List ChangeView) (it : Rows) → AllCanBeDone movable (cs ++ ds) it
    → AllCanBeDone movable cs it × AllCanBeDone movable ds (done_all cs it)
can_parts None cs ds it h = fits_parts cs ds it h
can_parts (Some movable) cs ds it h =
    let fit = fits_parts cs ds it h.0 in
    let listed = listed_parts movable cs ds it h.1 in
    ((fit.0, listed.0), (fit.1, listed.1))

pub done_parts : (cs ds : List ChangeView) (it : Rows) → done_all ds (done_all cs it) ≡ done_all (cs ++ ds) it
done_parts [] ds it = refl
done_parts (c ∷ cs) ds it = done_parts cs ds (done c it)

-- some changes more
pub part_made : {X Y : Type 0} (movable : Option (BTreeMap (List ℕ) ℕ)) (cs ds : List ChangeView) {a b c : State} {x : X} {r : Result Y Error}
    → Makes HoldsTables (AllCanBeDone movable cs) (done_all cs) a b (Ok x)
    → Makes HoldsTables (AllCanBeDone movable ds) (done_all ds) b c r
    → Makes HoldsTables (AllCanBeDone movable (cs ++ ds)) (done_all (cs ++ ds)) a c r
part_made movable cs ds p q = makes_more (can_parts movable cs ds) (done_parts cs ds) p q

-- one change more
pub one_made : {X Y : Type 0} (movable : Option (BTreeMap (List ℕ) ℕ)) (cs : List ChangeView) (d : ChangeView) {a b c : State} {x : X} {r : Result Y Error}
    → Makes HoldsTables (AllCanBeDone movable cs) (done_all cs) a b (Ok x)
    → Makes HoldsTables (CanBeDone movable d) (done d) b c r
    → Makes HoldsTables (AllCanBeDone movable (cs ++ d ∷ [])) (done_all (cs ++ d ∷ [])) a c r
one_made movable cs d p q = makes_more
    (λ it h. let parts = can_parts movable cs (d ∷ []) it h in (parts.0, alone movable (done_all cs it) parts.1)) (done_parts cs (d ∷ [])) p q
  where
    alone : (movable : Option (BTreeMap (List ℕ) ℕ)) (it : Rows) → AllCanBeDone movable (d ∷ []) it → CanBeDone movable d it
    alone None it h = h.0
    alone (Some movable) it h = (h.0.0, h.1.0)

pub seen_more : (changes : List Change) (i : ℕ) (c : Change) → i < length changes → c ≡ get_or changes i c
    → map change_view (take (i + 1) changes) ≡ map change_view (take i changes) ++ change_view c ∷ []
seen_more changes i c within is =
    ap (map change_view) (take_more changes i c within ∙ ap (λ x. take i changes ++ x ∷ []) (sym is)) ∙ map-append change_view (take i changes) (c ∷ [])
