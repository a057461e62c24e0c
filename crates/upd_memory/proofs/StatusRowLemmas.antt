-- Statuses in memory, by card, are those of the table: what is read of them, and what changes leave.
use Rattle.upd_memory.proofs.Common.{◌≡◌, Bool, true, false, cond, not, List, [], ◌∷◌, ◌++◌, map, Option, None, Some, refl, ap, sym, ◌∙◌, subst, BTreeMap}
use Rattle.upd_memory.proofs.Common.{IsOrdered, get, is_at, tied_itself, AllByRecursion, filter, flat_map, IsStrictlySortedBy, keys_of, lookup, option_map_or}
use Rattle.upd_memory.proofs.Common.{is_eq, by_name, CardRef, same_map, same_of, IsSame, StateRow, same_ref, state_rows, is_asked, state_pair, AreStatuses}
use Rattle.upd_memory.proofs.Common.{state_row, filter_twice, same_by_key}
use Rattle.upd_memory.proofs.MapRowsLemmas.{all_same, flat_at}
use Rattle.upd_memory.proofs.KeyedLemmas.{filter_alike, one_more, some_gone}
use Rattle.upd_memory.proofs.NameOrderLemmas.{alike, one_by_order, one_ref, refs_exact, refs_total, same_by_order, turned}

-- ---- all statuses

-- the rows of a map of statuses
made_rows : (es : List (CardRef × Bool)) → flat_map (λ e. record { card = e.0; active = e.1 } ∷ []) es ≡ map state_row es
made_rows [] = refl
made_rows (e ∷ es) = ap (λ rows. record { card = e.0; active = e.1 } ∷ rows) (made_rows es)

pairs_back : (es : List (CardRef × Bool)) → map state_pair (map state_row es) ≡ es
pairs_back [] = refl
pairs_back (e ∷ es) = ap (λ rest. e ∷ rest) (pairs_back es)

by_key : (rows : List StateRow) (card : CardRef)
    → filter (λ r. same_ref card r.card) rows ≡ filter (λ r. is_eq (by_name card r.card)) rows
by_key rows card = ap (λ (f : StateRow → Bool). filter f rows) (λ i r. same_by_order card r.card i)

state_of : (card : CardRef) (status : Option Bool) → state_rows card status
    ≡ option_map_or (λ active. record { card = card; active = active } ∷ []) status []
state_of card None = refl
state_of card (Some active) = refl

pub statuses_same : (statuses : BTreeMap CardRef Bool) (rows : List StateRow) → IsOrdered by_name statuses → AreStatuses statuses rows
    → IsSame (map state_row statuses.entries) rows
statuses_same statuses rows up are =
    subst (λ xs. IsSame xs rows) (made_rows statuses.entries)
    (all_same refs_total refs_exact (λ r. r.card) (λ card r. is_eq (by_name card r.card)) (λ card r. refl)
    (λ card active. record { card = card; active = active } ∷ []) statuses rows up
    (λ card. subst (λ xs. IsSame xs (filter (λ r. is_eq (by_name card r.card)) rows)) (state_of card (get by_name statuses card))
    (subst (IsSame (state_rows card (get by_name statuses card))) (by_key rows card) (are card))))

pub pairs_same : (statuses : BTreeMap CardRef Bool) (rows : List StateRow) → IsOrdered by_name statuses → AreStatuses statuses rows
    → IsSame statuses.entries (map state_pair rows)
pairs_same statuses rows up are =
    subst (λ xs. IsSame xs (map state_pair rows)) (pairs_back statuses.entries) (same_map state_pair (statuses_same statuses rows up are))

-- ---- statuses of some cards

pub asked_at : (cards : List CardRef) (all : BTreeMap CardRef Bool) (rows : List StateRow) → AreStatuses all rows → (c : CardRef)
    → IsSame (state_rows c (cond (is_asked cards c) (get by_name all c) None)) (filter (λ r. same_ref c r.card) (filter (λ r. is_asked cards r.card) rows))
asked_at cards all rows are c =
    subst (IsSame (state_rows c (cond (is_asked cards c) (get by_name all c) None)))
    (sym (filter_twice (λ r. same_ref c r.card) (λ r. is_asked cards r.card) rows)) (go (is_asked cards c) refl)
  where
    alike : (b : Bool) → is_asked cards c ≡ b → filter (λ r. is_asked cards r.card) (filter (λ r. same_ref c r.card) rows)
        ≡ cond b (filter (λ r. same_ref c r.card) rows) []
    alike b e = filter_alike (λ r. is_asked cards r.card) (λ r. same_ref c r.card) b (λ r hit. ap (is_asked cards) (sym (one_ref c r.card hit))
        ∙ e) rows

    go : (b : Bool) → is_asked cards c ≡ b → IsSame (state_rows c (cond b (get by_name all c) None))
        (filter (λ r. is_asked cards r.card) (filter (λ r. same_ref c r.card) rows))
    go true e = subst (IsSame (state_rows c (get by_name all c))) (sym (alike true e)) (are c)
    go false e = subst (IsSame []) (sym (alike false e)) (same_of [] [] refl)

-- pairs in order are those of a table that has, of each card, the status that is found in them
own_rows : (es : List (CardRef × Bool)) → AllByRecursion (λ e. filter (λ (r : StateRow). is_eq (by_name e.0 r.card)) (state_row e ∷ [])
    ≡ state_row e ∷ []) es
own_rows [] = tt
own_rows (e ∷ es) = (ap (λ o. cond (is_eq o) (state_row e ∷ []) []) (tied_itself refs_total e.0), own_rows es)

pub list_same : (es : List (CardRef × Bool)) (rows : List StateRow) → IsStrictlySortedBy by_name (keys_of es)
    → ((c : CardRef) → IsSame (state_rows c (lookup (is_at (by_name c)) es)) (filter (λ r. same_ref c r.card) rows))
    → IsSame es (map state_pair rows)
list_same es rows up are =
    subst (λ xs. IsSame xs (map state_pair rows)) (pairs_back es)
    (same_map state_pair (same_by_key (λ c (r : StateRow). is_eq (by_name c r.card)) (λ r. r.card) (λ r. ap is_eq (tied_itself refs_total r.card))
    (map state_row es) rows each))
  where
    found : (c : CardRef) → state_rows c (lookup (is_at (by_name c)) es) ≡ filter (λ r. is_eq (by_name c r.card)) (map state_row es)
    found c =
        state_of c (lookup (is_at (by_name c)) es)
        ∙ sym (flat_at refs_total refs_exact (λ r. r.card) (λ card r. is_eq (by_name card r.card)) (λ card r. refl)
        (λ card active. record { card = card; active = active } ∷ []) (λ card. true) c es up (own_rows es))
        ∙ ap (filter (λ (r : StateRow). is_eq (by_name c r.card))) (made_rows es)

    each : (c : CardRef) → IsSame (filter (λ r. is_eq (by_name c r.card)) (map state_row es)) (filter (λ r. is_eq (by_name c r.card)) rows)
    each c = subst (λ xs. IsSame xs (filter (λ r. is_eq (by_name c r.card)) rows)) (found c)
        (subst (IsSame (state_rows c (lookup (is_at (by_name c)) es))) (by_key rows c) (are c))

-- ---- changes

pub states_left : (old new : BTreeMap CardRef Bool) (rows : List StateRow) (card : CardRef)
    → ((c : CardRef) → get by_name new c ≡ cond (is_eq (by_name card c)) None (get by_name old c)) → AreStatuses old rows
    → AreStatuses new (filter (λ r. not (same_ref card r.card)) rows)
states_left old new rows card left are =
    some_gone (λ c x. same_ref c x.card) (λ c. state_rows c (get by_name old c)) (λ c. state_rows c (get by_name new c)) rows
    (λ x. same_ref card x.card) (λ c. is_eq (by_name card c)) (λ c x. alike card c x.card)
    (λ c. ap (state_rows c) (left c) ∙ go c (is_eq (by_name card c))) are
  where
    go : (c : CardRef) (b : Bool) → state_rows c (cond b None (get by_name old c)) ≡ cond b [] (state_rows c (get by_name old c))
    go c true = refl
    go c false = refl

pub state_put : (old new : BTreeMap CardRef Bool) (rows : List StateRow) (card : CardRef) (active : Bool)
    → ((c : CardRef) → get by_name new c ≡ cond (is_eq (by_name card c)) (Some active) (get by_name old c)) → AreStatuses old rows
    → AreStatuses new (filter (λ r. not (same_ref card r.card)) rows ++ record { card = card; active = active } ∷ [])
state_put old new rows card active put are =
    one_more (λ c x. same_ref c x.card) mid (λ c. state_rows c (get by_name new c)) (filter (λ r. not (same_ref card r.card)) rows)
    (record { card = card; active = active }) (λ c. ap (state_rows c) (put c) ∙ go c (is_eq (by_name card c)) refl)
    (some_gone (λ c x. same_ref c x.card) (λ c. state_rows c (get by_name old c)) mid rows (λ x. same_ref card x.card) (λ c. is_eq (by_name card c))
    (λ c x. alike card c x.card) (λ c. refl) are)
  where
    mid : CardRef → List StateRow
    mid c = cond (is_eq (by_name card c)) [] (state_rows c (get by_name old c))

    go : (c : CardRef) (b : Bool) → is_eq (by_name card c) ≡ b → state_rows c (cond b (Some active) (get by_name old c))
        ≡ cond (same_ref c card) (cond (is_eq (by_name card c)) [] (state_rows c (get by_name old c)) ++ record { card = card; active = active } ∷ [])
        (cond (is_eq (by_name card c)) [] (state_rows c (get by_name old c)))
    go c b e =
        subst (λ t. state_rows c (cond b (Some active) (get by_name old c)) ≡ cond t
        (cond (is_eq (by_name card c)) [] (state_rows c (get by_name old c)) ++ record { card = card; active = active } ∷ [])
        (cond (is_eq (by_name card c)) [] (state_rows c (get by_name old c)))) (sym e ∙ turned card c)
        (subst (λ t. state_rows c (cond b (Some active) (get by_name old c)) ≡ cond b
        (cond t [] (state_rows c (get by_name old c)) ++ record { card = card; active = active } ∷ []) (cond t [] (state_rows c
        (get by_name old c)))) (sym e)
        (two b e))
      where
        two : (b : Bool) → is_eq (by_name card c) ≡ b → state_rows c (cond b (Some active) (get by_name old c))
            ≡ cond b (cond b [] (state_rows c (get by_name old c)) ++ record { card = card; active = active } ∷ []) (cond b [] (state_rows c
            (get by_name old c)))
        two true e = ap (λ k. record { card = k; active = active } ∷ []) (sym (one_by_order card c e))
        two false e = refl

-- one status more, of a card that has none
pub state_more : (old new : BTreeMap CardRef Bool) (rows : List StateRow) (card : CardRef) (active : Bool) → get by_name old card ≡ None
    → ((c : CardRef) → get by_name new c ≡ cond (is_eq (by_name card c)) (Some active) (get by_name old c)) → AreStatuses old rows
    → AreStatuses new (rows ++ record { card = card; active = active } ∷ [])
state_more old new rows card active none put are =
    one_more (λ c x. same_ref c x.card) (λ c. state_rows c (get by_name old c)) (λ c. state_rows c (get by_name new c)) rows
    (record { card = card; active = active }) (λ c. ap (state_rows c) (put c) ∙ go c (is_eq (by_name card c)) refl) are
  where
    go : (c : CardRef) (b : Bool) → is_eq (by_name card c) ≡ b → state_rows c (cond b (Some active) (get by_name old c))
        ≡ cond (same_ref c card) (state_rows c (get by_name old c) ++ record { card = card; active = active } ∷ []) (state_rows c (get by_name old c))
    go c true e =
        let one = one_by_order card c e in
        ap (λ k. record { card = k; active = active } ∷ []) (sym one)
        ∙ sym (ap (λ o. state_rows c o ++ record { card = card; active = active } ∷ []) (ap (get by_name old) (sym one) ∙ none))
        ∙ sym (ap (λ b. cond b (state_rows c (get by_name old c) ++ record { card = card; active = active } ∷ []) (state_rows c (get by_name old c)))
        (sym (turned card c) ∙ e))
    go c false e = sym (ap (λ b. cond b (state_rows c (get by_name old c)
        ++ record { card = card; active = active } ∷ []) (state_rows c (get by_name old c)))
        (sym (turned card c) ∙ e))

-- ---- statuses that were read

rows_back : (rows : List StateRow) → map state_row (map state_pair rows) ≡ rows
rows_back [] = refl
rows_back (r ∷ rows) = ap (λ rest. r ∷ rest) (rows_back rows)

pub states_read : (pairs : List (CardRef × Bool)) (rows : List StateRow) → IsSame pairs (map state_pair rows) → IsSame (map state_row pairs) rows
states_read pairs rows same = subst (IsSame (map state_row pairs)) (rows_back rows) (same_map state_row same)
