-- What a new status leaves of the rows of each card, wherever its own row stands.
use Rattle.std.proofs.Common.{◌≡◌, Bool, true, false, ◌&&◌, cond, not, List, [], ◌∷◌, ◌++◌, length, map, refl, ap, sym, ◌∙◌, append-nil, arith}
use Rattle.std.specs.Prelude.{◌==◌}
use Rattle.std.specs.Str.{bytes_eq}
use Rattle.std.proofs.lemmas.Bool.Decides.{Decides-eqb}
use Rattle.std.proofs.lemmas.Slice.Eq.{bytes_eq-Decides}
use Rattle.std.proofs.lemmas.List.Elements.{filter-append}
use Rattle.upd_text.specs.declared.card_ref.CardRef.{CardRef}
use Rattle.upd_records.specs.Changes.{other_statuses, restated, status_rows, with_status}
use Rattle.upd_records.specs.Rows.{StateRow, same_ref}

-- two references that are the same are one
same_one : (a b : CardRef) → same_ref a b ≡ true → a ≡ b
same_one a b e = go (bytes_eq a.name b.name) refl (a.number == b.number) refl e
  where
    go : (x : Bool) → bytes_eq a.name b.name ≡ x → (y : Bool) → (a.number == b.number) ≡ y → (x && y) ≡ true → a ≡ b
    go true f true g e =
        let name : a.name ≡ b.name = (bytes_eq-Decides a.name b.name).0 f in
        let number : a.number ≡ b.number = (Decides-eqb a.number b.number).0 g in
        λ i. record { name = name i; number = number i }
    go true f false g e = absurd (cc)
    go false f y g e = absurd (cc)

no_rows : (xs : List StateRow) → length xs ≡ 0 → xs ≡ []
no_rows [] none = refl
no_rows (x ∷ xs) none = absurd (cc)

module _ (card : CardRef) (active : Bool) where
  abbrev row : StateRow
  row = record { card = card; active = active }

  -- where a card has no row, its status changes none, and all rows are of others
  pub none_restated : (xs : List StateRow) → length (status_rows card xs) ≡ 0 → map (restated card active) xs ≡ xs
  none_restated [] none = refl
  none_restated (x ∷ xs) none = go (same_ref card x.card) refl (none_restated xs)
    where
      go : (b : Bool) → same_ref card x.card ≡ b → (length (status_rows card xs) ≡ 0 → map (restated card active) xs ≡ xs)
          → map (restated card active) (x ∷ xs) ≡ x ∷ xs
      go true e rest = absurd (let q = sym (ap (λ b. length (cond b (x ∷ status_rows card xs) (status_rows card xs))) e) ∙ none in cc)
      go false e rest =
          (λ i. cond (e i) (record x { active = active }) x ∷ map (restated card active) xs)
          ∙ ap (λ ys. x ∷ ys) (rest (sym (ap (λ b. length (cond b (x ∷ status_rows card xs) (status_rows card xs))) e) ∙ none))

  pub none_taken : (xs : List StateRow) → length (status_rows card xs) ≡ 0 → other_statuses card xs ≡ xs
  none_taken [] none = refl
  none_taken (x ∷ xs) none = go (same_ref card x.card) refl (none_taken xs)
    where
      go : (b : Bool) → same_ref card x.card ≡ b → (length (status_rows card xs) ≡ 0 → other_statuses card xs ≡ xs) → other_statuses card (x ∷ xs) ≡ x ∷ xs
      go true e rest = absurd (let q = sym (ap (λ b. length (cond b (x ∷ status_rows card xs) (status_rows card xs))) e) ∙ none in cc)
      go false e rest =
          (λ i. cond (not (e i)) (x ∷ other_statuses card xs) (other_statuses card xs))
          ∙ ap (λ ys. x ∷ ys) (rest (sym (ap (λ b. length (cond b (x ∷ status_rows card xs) (status_rows card xs))) e) ∙ none))

  -- a row that has another status is still none of the others
  pub others_left : (xs : List StateRow) → other_statuses card (map (restated card active) xs) ≡ other_statuses card xs
  others_left [] = refl
  others_left (x ∷ xs) = go (same_ref card x.card) refl (others_left xs)
    where
      go : (b : Bool) → same_ref card x.card ≡ b → other_statuses card (map (restated card active) xs) ≡ other_statuses card xs
          → other_statuses card (map (restated card active) (x ∷ xs)) ≡ other_statuses card (x ∷ xs)
      go true e rest =
          (λ i. other_statuses card (cond (e i) (record x { active = active }) x ∷ map (restated card active) xs))
          ∙ (λ i. cond (not (e i)) (record x { active = active } ∷ other_statuses card (map (restated card active) xs))
          (other_statuses card (map (restated card active) xs)))
          ∙ rest ∙ sym (λ i. cond (not (e i)) (x ∷ other_statuses card xs) (other_statuses card xs))
      go false e rest =
          (λ i. other_statuses card (cond (e i) (record x { active = active }) x ∷ map (restated card active) xs))
          ∙ (λ i. cond (not (e i)) (x ∷ other_statuses card (map (restated card active) xs)) (other_statuses card (map (restated card active) xs)))
          ∙ ap (λ ys. x ∷ ys) rest ∙ sym (λ i. cond (not (e i)) (x ∷ other_statuses card xs) (other_statuses card xs))

  -- a row in front of rows that are none of its card's, or behind them
  first_or_last : (r : CardRef) (xs : List StateRow) → length (status_rows card xs) ≡ 0 → (b : Bool) → same_ref r card ≡ b
      → status_rows r (row ∷ xs) ≡ status_rows r (xs ++ row ∷ [])
  first_or_last r xs none true e =
      let empty : status_rows r xs ≡ [] = ap (λ k. status_rows k xs) (same_one r card e) ∙ no_rows (status_rows card xs) none in
      ap (λ b. cond b (row ∷ status_rows r xs) (status_rows r xs)) e ∙ ap (λ rest. row ∷ rest) empty
      ∙ sym (filter-append (λ s. same_ref r s.card) xs (row ∷ []) ∙ (λ i. empty i ++ cond (e i) (row ∷ []) []))
  first_or_last r xs none false e =
      ap (λ b. cond b (row ∷ status_rows r xs) (status_rows r xs)) e
      ∙ sym (filter-append (λ s. same_ref r s.card) xs (row ∷ []) ∙ (λ i. status_rows r xs ++ cond (e i) (row ∷ []) [])
      ∙ append-nil (status_rows r xs))

  -- the rows of each card, where the one row of a card is changed
  one_restated : (r : CardRef) (xs : List StateRow) → length (status_rows card xs) ≡ 1
      → status_rows r (map (restated card active) xs) ≡ status_rows r (other_statuses card xs ++ row ∷ [])
  one_restated r [] one = absurd (cc)
  one_restated r (x ∷ xs) one = go (same_ref card x.card) refl (one_restated r xs)
    where
      left : (b : Bool) → same_ref card x.card ≡ b → length (cond b (x ∷ status_rows card xs) (status_rows card xs)) ≡ 1
      left b e = sym (ap (λ b. length (cond b (x ∷ status_rows card xs) (status_rows card xs))) e) ∙ one

      go : (b : Bool) → same_ref card x.card ≡ b
          → (length (status_rows card xs) ≡ 1 → status_rows r (map (restated card active) xs) ≡ status_rows r (other_statuses card xs ++ row ∷ []))
          → status_rows r (map (restated card active) (x ∷ xs)) ≡ status_rows r (other_statuses card (x ∷ xs) ++ row ∷ [])
      go true e later =
          let none : length (status_rows card xs) ≡ 0 = let counted = left true e in omega arith in
          (λ i. status_rows r (cond (e i) (record x { active = active }) x ∷ map (restated card active) xs))
          ∙ ap (λ rest. status_rows r (record x { active = active } ∷ rest)) (none_restated xs none)
          ∙ ap (λ k. status_rows r (record { card = k; active = active } ∷ xs)) (sym (same_one card x.card e))
          ∙ first_or_last r xs none (same_ref r card) refl
          ∙ sym ((λ i. status_rows r (cond (not (e i)) (x ∷ other_statuses card xs) (other_statuses card xs) ++ row ∷ []))
          ∙ ap (λ rest. status_rows r (rest ++ row ∷ [])) (none_taken xs none))
      go false e later =
          (λ i. status_rows r (cond (e i) (record x { active = active }) x ∷ map (restated card active) xs))
          ∙ ap (λ rest. cond (same_ref r x.card) (x ∷ rest) rest) (later (left false e))
          ∙ sym (λ i. status_rows r (cond (not (e i)) (x ∷ other_statuses card xs) (other_statuses card xs) ++ row ∷ []))

-- The rows of each card after a status is set are those that it has where the card's rows go and the new one is put after all.
pub status_set : (r card : CardRef) (active : Bool) (xs : List StateRow) →
    status_rows r (with_status card active xs) ≡ status_rows r (other_statuses card xs ++ record { card = card; active = active } ∷ [])
status_set r card active xs = go (length (status_rows card xs) == 1) refl
  where
    go : (b : Bool) → (length (status_rows card xs) == 1) ≡ b → status_rows r (with_status card active xs)
        ≡ status_rows r (other_statuses card xs ++ record { card = card; active = active } ∷ [])
    go true e =
        ap (λ b. status_rows r (cond b (map (restated card active) xs) (other_statuses card xs ++ record { card = card; active = active } ∷ []))) e
        ∙ one_restated card active r xs ((Decides-eqb (length (status_rows card xs)) 1).0 e)
    go false e =
        ap (λ b. status_rows r (cond b (map (restated card active) xs) (other_statuses card xs ++ record { card = card; active = active } ∷ []))) e
