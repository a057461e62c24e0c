-- The statuses found for cards that are sorted, each once, are those of the table.
use Rattle.upd_memory.proofs.Common.{◌≡◌, Bool, true, false, cond, List, [], ◌∷◌, ◌++◌, map, Option, None, Some, refl, ap, sym, ◌∙◌, subst, ◌||◌, is_some}
use Rattle.upd_memory.proofs.Common.{BTreeMap, get, is_at, filter, flat_map, IsStrictlySortedBy, keys_of, lookup, option_map_or}
use Rattle.upd_memory.proofs.Common.{is_eq, by_name, CardRef, IsSame, StateRow, same_ref, state_rows, is_asked, state_pair, AreInOrder}
use Rattle.upd_memory.proofs.Common.{AreStatuses, pairs_at}
use Rattle.std.specs.Option.{option_or}
use Rattle.std.proofs.lemmas.List.Kept.{IsStrictlySortedBy-filter}
use Rattle.upd_memory.proofs.NameOrderLemmas.{one_by_order, turned}
use Rattle.upd_memory.proofs.StatusRowLemmas.{asked_at, list_same}

-- ---- the pairs of cards

module _ (statuses : BTreeMap CardRef Bool) where
  keys_found : (cards : List CardRef) → keys_of (flat_map (pairs_at statuses) cards) ≡ filter (λ c. is_some (get by_name statuses c)) cards
  keys_found [] = refl
  keys_found (c ∷ cs) = go (get by_name statuses c) (keys_found cs)
    where
      go : (o : Option Bool) → keys_of (flat_map (pairs_at statuses) cs) ≡ filter (λ d. is_some (get by_name statuses d)) cs
          → keys_of (option_map_or (λ active. (c, active) ∷ []) o [] ++ flat_map (pairs_at statuses) cs)
          ≡ cond (is_some o) (c ∷ filter (λ d. is_some (get by_name statuses d)) cs) (filter (λ d. is_some (get by_name statuses d)) cs)
      go None rest = rest
      go (Some active) rest = ap (λ ks. c ∷ ks) rest

  pub found_in_order : (cards : List CardRef) → IsStrictlySortedBy by_name cards → AreInOrder (flat_map (pairs_at statuses) cards)
  found_in_order cards up = subst (IsStrictlySortedBy by_name) (sym (keys_found cards))
      (IsStrictlySortedBy-filter by_name (λ c. is_some (get by_name statuses c)) cards up)

  found_at : (cards : List CardRef) (card : CardRef)
      → lookup (is_at (by_name card)) (flat_map (pairs_at statuses) cards) ≡ cond (is_asked cards card) (get by_name statuses card) None
  found_at [] card = refl
  found_at (c ∷ cs) card = first (get by_name statuses c) ∙ go (is_eq (by_name card c)) refl (found_at cs card)
    where
      later : Option Bool
      later = lookup (is_at (by_name card)) (flat_map (pairs_at statuses) cs)

      either : (b : Bool) (o : Option Bool) → o ≡ cond b o o
      either true o = refl
      either false o = refl

      first : (o : Option Bool) → lookup (is_at (by_name card)) (option_map_or (λ active. (c, active) ∷ []) o [] ++ flat_map (pairs_at statuses) cs)
          ≡ cond (is_eq (by_name card c)) (option_or o later) later
      first None = either (is_eq (by_name card c)) later
      first (Some active) = refl

      twice : (b : Bool) (o : Option Bool) → option_or o (cond b o None) ≡ o
      twice true None = refl
      twice true (Some active) = refl
      twice false None = refl
      twice false (Some active) = refl

      go : (b : Bool) → is_eq (by_name card c) ≡ b → later ≡ cond (is_asked cs card) (get by_name statuses card) None
          → cond (is_eq (by_name card c)) (option_or (get by_name statuses c) later) later
          ≡ cond (same_ref c card || is_asked cs card) (get by_name statuses card) None
      go true e rest =
          ap (λ b. cond b (option_or (get by_name statuses c) later) later) e
          ∙ ap (λ k. option_or (get by_name statuses k) later) (sym (one_by_order card c e))
          ∙ ap (λ o. option_or (get by_name statuses card) o) rest ∙ twice (is_asked cs card) (get by_name statuses card)
          ∙ sym (ap (λ b. cond (b || is_asked cs card) (get by_name statuses card) None) (sym (turned card c) ∙ e))
      go false e rest =
          ap (λ b. cond b (option_or (get by_name statuses c) later) later) e ∙ rest
          ∙ sym (ap (λ b. cond (b || is_asked cs card) (get by_name statuses card) None) (sym (turned card c) ∙ e))

  pub found_same : (cards once : List CardRef) (rows : List StateRow) → IsStrictlySortedBy by_name once
      → ((card : CardRef) → is_asked once card ≡ is_asked cards card) → AreStatuses statuses rows
      → IsSame (flat_map (pairs_at statuses) once) (map state_pair (filter (λ r. is_asked cards r.card) rows))
  found_same cards once rows up same are =
      list_same (flat_map (pairs_at statuses) once) (filter (λ r. is_asked cards r.card) rows) (found_in_order once up)
      (λ c. subst (λ o. IsSame (state_rows c o) (filter (λ r. same_ref c r.card) (filter (λ r. is_asked cards r.card) rows)))
      (sym (found_at once c ∙ ap (λ b. cond b (get by_name statuses c) None) (same c))) (asked_at cards statuses rows are c))
