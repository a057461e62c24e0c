-- A status that is changed in its place, or put after all others, by the number of rows that its card had.
use Rattle.upd_sql.proofs.Common.{◌≡◌, ℕ, Bool, List, [], ◌∷◌, ◌++◌, map, length, Result, Ok, Err, sym, ap, subst, ◌∙◌, ne_eqb, Error, State, CardRef, done}
use Rattle.upd_sql.proofs.Common.{same_ref}
use Rattle.upd_sql.proofs.Common.{restated, status_rows, Rows, StateRow, Makes, clean_before, steps_then, CountsStatuses, AnyTables, HoldsTables}
use Rattle.upd_sql.proofs.Common.{with_restated, with_state, without_states}
use Rattle.std.proofs.Common.{◌≢◌, cond}
use Rattle.std.proofs.lemmas.Bool.Decides.{Decides-eqb}
use Rattle.upd_records.proofs.StatusLemmas.{none_restated, none_taken, others_left}
use Rattle.upd_records.specs.Changes.{other_statuses, with_status, StatusNow}

module _ (card : CardRef) (active : Bool) where
  abbrev row : StateRow
  row = record { card = card; active = active }

  one_told : (xs : List StateRow) → 1 ≡ length (status_rows card xs) → map (restated card active) xs ≡ with_status card active xs
  one_told xs one =
      sym (ap (λ b. cond b (map (restated card active) xs) (other_statuses card xs ++ row ∷ [])) ((Decides-eqb (length (status_rows card xs)) 1).1 (sym one)))

  last_told : (xs : List StateRow) → length (status_rows card xs) ≢ 1 → other_statuses card xs ++ row ∷ [] ≡ with_status card active xs
  last_told xs none =
      sym (ap (λ b. cond b (map (restated card active) xs) (other_statuses card xs ++ row ∷ [])) (ne_eqb (length (status_rows card xs)) 1 none))

  abbrev Restates : {X : Type 0} → State → State → Result X Error → Type 0
  Restates old new r = Makes HoldsTables AnyTables (with_restated card active) old new r

  abbrev Tells : {X : Type 0} → State → State → Result X Error → Type 0
  Tells old new r = Makes HoldsTables AnyTables (done (StatusNow card active)) old new r

  -- the card's one row was changed
  pub told_in_place : {X : Type 0} (old new : State) (n : ℕ) (x : X) → Restates old new (Ok n) → CountsStatuses card old new (Ok n) → n ≡ 1
      → Tells old new (Ok x)
  told_in_place old new n x m counted one = record {
    steps = record { going = m.steps.going; kept = m.steps.kept; survives = m.steps.survives };
    made = λ clean inside it any h.
        subst (λ rows. HoldsTables rows new.now)
        (ap (λ ss. record it { states = ss }) (one_told it.states (sym one ∙ counted clean inside it h)))
        (m.made clean inside it any h);
  }

  -- another statement comes after it
  told_then : {X : Type 0} (g : Rows → Rows) (a b c : State) (n : ℕ) (r : Result X Error) → Restates a b (Ok n) → CountsStatuses card a b (Ok n)
      → Makes HoldsTables AnyTables g b c r
      → ((it : Rows) → n ≡ length (status_rows card it.states) → g (with_restated card active it) ≡ done (StatusNow card active) it) → Tells a c r
  told_then g a b c n (Ok x) m counted q same = record {
    steps = steps_then a b c n (Ok x) m.steps q.steps;
    made = λ clean inside it any h.
        let early = clean_before b c _ q.steps.survives clean in
        subst (λ rows. HoldsTables rows c.now) (same it (counted early inside it h))
        (q.made clean (m.steps.going early inside) (with_restated card active it) any (m.made early inside it any h));
  }
  told_then g a b c n (Err e) m counted q same = record { steps = steps_then a b c n (Err e) m.steps q.steps; made = λ clean. tt }

  -- the card had no row
  pub told_last : {X : Type 0} (a b c : State) (n : ℕ) (r : Result X Error) → Restates a b (Ok n) → CountsStatuses card a b (Ok n)
      → Makes HoldsTables AnyTables (with_state card active) b c r → n ≡ 0 → Tells a c r
  told_last a b c n r m counted q none = told_then (with_state card active) a b c n r m counted q (λ it is.
      let zero_rows : length (status_rows card it.states) ≡ 0 = sym is ∙ none in
      ap (λ ss. record it { states = ss })
      (ap (λ xs. xs ++ row ∷ []) (none_restated card active it.states zero_rows ∙ sym (none_taken card active it.states zero_rows))
      ∙ last_told it.states (λ one. let e = sym zero_rows ∙ one in cc)))

  -- the card had several rows
  pub told_anew : {X : Type 0} (a b c : State) (n : ℕ) (r : Result X Error) → Restates a b (Ok n) → CountsStatuses card a b (Ok n)
      → Makes HoldsTables AnyTables (λ it. with_state card active (without_states (same_ref card) it)) b c r → n ≢ 1 → Tells a c r
  told_anew a b c n r m counted q many = told_then (λ it. with_state card active (without_states (same_ref card) it)) a b c n r m counted q (λ it is.
      ap (λ ss. record it { states = ss })
      (ap (λ xs. xs ++ row ∷ []) (others_left card active it.states) ∙ last_told it.states (λ one. many (is ∙ one))))
