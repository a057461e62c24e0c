-- The rows of a card and of a target after row changes that are right of a library.
use Rattle.upd_yank.proofs.Common.{◌≡◌, ℕ, Bool, true, false, not, ◌||◌, cond, List, [], ◌∷◌, ◌++◌, Some, refl, ap, sym, ◌∙◌, append-nil, ◌==◌, filter}
use Rattle.upd_yank.proofs.Common.{list_any, AllByRecursion, filter-append, CardRef, same_target, Target, LibraryView, status_of, live_count, is_same}
use Rattle.upd_yank.proofs.Common.{ChangeView, IdentNew, IdentPurged, CardNew, CardGone, CardsMoved, EntryNew, EntriesGone, TargetNew, TargetsGone, StatusNow}
use Rattle.upd_yank.proofs.Common.{CountNow, done_all, Rows, count_rows, same_ref, state_rows, same_ref_is}
use Rattle.upd_records.specs.Changes.{done, with_status}
use Rattle.upd_records.proofs.StatusLemmas.{status_set}
use Rattle.upd_records.specs.Rows.{CountRow, StateRow}
use Rattle.upd_diff.proofs.StateLemmas.{filter_gone, filter_kept, states_gone, states_kept}

-- ---- changes that set statuses and counts of a library

-- a change sets a status or a count that is right of a library
abbrev pub IsRightOf : LibraryView → ChangeView → Type 0
IsRightOf l (StatusNow card active) = status_of card l ≡ Some active
IsRightOf l (CountNow target n) = n ≡ live_count l target
IsRightOf l (IdentNew ident) = ⊥
IsRightOf l (IdentPurged age) = ⊥
IsRightOf l (CardNew card deck place body) = ⊥
IsRightOf l (CardGone card) = ⊥
IsRightOf l (CardsMoved deck from by) = ⊥
IsRightOf l (EntryNew card ord entry) = ⊥
IsRightOf l (EntriesGone card) = ⊥
IsRightOf l (TargetNew card ord target) = ⊥
IsRightOf l (TargetsGone card targets) = ⊥

-- whether a change sets the status of a card
abbrev pub tells_status : CardRef → ChangeView → Bool
tells_status r (StatusNow card active) = same_ref r card
tells_status r (CountNow target n) = false
tells_status r (IdentNew ident) = false
tells_status r (IdentPurged age) = false
tells_status r (CardNew card deck place body) = false
tells_status r (CardGone card) = false
tells_status r (CardsMoved deck from by) = false
tells_status r (EntryNew card ord entry) = false
tells_status r (EntriesGone card) = false
tells_status r (TargetNew card ord target) = false
tells_status r (TargetsGone card targets) = false

-- whether a change sets the count of a target
abbrev pub tells_count : Target → ChangeView → Bool
tells_count t (CountNow target n) = is_same t target
tells_count t (StatusNow card active) = false
tells_count t (IdentNew ident) = false
tells_count t (IdentPurged age) = false
tells_count t (CardNew card deck place body) = false
tells_count t (CardGone card) = false
tells_count t (CardsMoved deck from by) = false
tells_count t (EntryNew card ord entry) = false
tells_count t (EntriesGone card) = false
tells_count t (TargetNew card ord target) = false
tells_count t (TargetsGone card targets) = false

-- ---- the row of a card, and of a target, after such changes

-- the row of a card once the status of k is set
state_change : (l : LibraryView) (r k : CardRef) (a : Bool) (xs : List StateRow) → status_of k l ≡ Some a → (b : Bool) → same_ref r k ≡ b →
    filter (λ s. same_ref r s.card) (with_status k a xs)
    ≡ cond b (state_rows r (status_of r l)) (filter (λ s. same_ref r s.card) xs)
state_change l r k a xs right true e =
    let one : r ≡ k = same_ref_is r k e in
    status_set r k a xs
    ∙ filter-append (λ s. same_ref r s.card) (filter (λ s. not (same_ref k s.card)) xs) (record { card = k; active = a } ∷ [])
    ∙ (λ i. states_gone r k xs e i ++ cond (e i) (record { card = k; active = a } ∷ []) [])
    ∙ (λ i. state_rows (sym one i) (sym right i)) ∙ ap (λ o. state_rows r o) (ap (λ x. status_of x l) (sym one))
state_change l r k a xs right false e =
    status_set r k a xs
    ∙ filter-append (λ s. same_ref r s.card) (filter (λ s. not (same_ref k s.card)) xs) (record { card = k; active = a } ∷ [])
    ∙ (λ i. states_kept r k xs e i ++ cond (e i) (record { card = k; active = a } ∷ []) [])
    ∙ append-nil (filter (λ s. same_ref r s.card) xs)

-- the row of a card after changes that are right
pub state_is : (l : LibraryView) (cs : List ChangeView) (rows : Rows) (r : CardRef) → AllByRecursion (IsRightOf l) cs →
    filter (λ s. same_ref r s.card) (done_all cs rows).states
    ≡ cond (list_any (tells_status r) cs) (state_rows r (status_of r l)) (filter (λ s. same_ref r s.card) rows.states)
state_is l [] rows r right = refl
state_is l (c ∷ cs) rows r right = state_is l cs (done c rows) r right.1 ∙ one c right.0
  where
    either : (a b : Bool) (x y z : List StateRow) → z ≡ cond a x y → cond b x z ≡ cond (a || b) x y
    either true true x y z e = refl
    either true false x y z e = e
    either false true x y z e = refl
    either false false x y z e = e

    one : (c : ChangeView) → IsRightOf l c →
        cond (list_any (tells_status r) cs) (state_rows r (status_of r l)) (filter (λ s. same_ref r s.card) (done c rows).states)
        ≡ cond (tells_status r c || list_any (tells_status r) cs) (state_rows r (status_of r l)) (filter (λ s. same_ref r s.card) rows.states)
    one (StatusNow k a) is =
        either (same_ref r k) (list_any (tells_status r) cs) (state_rows r (status_of r l)) (filter (λ s. same_ref r s.card) rows.states)
        (filter (λ s. same_ref r s.card) (done (StatusNow k a) rows).states) (state_change l r k a rows.states is (same_ref r k) refl)
    one (CountNow target n) is = refl
    one (IdentNew ident) is = absurd is
    one (IdentPurged age) is = absurd is
    one (CardNew card deck place body) is = absurd is
    one (CardGone card) is = absurd is
    one (CardsMoved deck from by) is = absurd is
    one (EntryNew card ord entry) is = absurd is
    one (EntriesGone card) is = absurd is
    one (TargetNew card ord target) is = absurd is
    one (TargetsGone card targets) is = absurd is

-- the rows that are of a target are those of its count
row_of_count : (t u : Target) (n : ℕ) (b : Bool) → is_same t u ≡ b → filter (λ s. is_same t s.target) (count_rows u n) ≡ cond b (count_rows u n) []
row_of_count t u n b e = go (n == 0) b e
  where
    go : (z b : Bool) → is_same t u ≡ b →
        filter (λ (s : CountRow). is_same t s.target) (cond z [] (record { target = u; n = n } ∷ []))
        ≡ cond b (cond z [] (record { target = u; n = n } ∷ [])) []
    go true true e = refl
    go true false e = refl
    go false true e = rw e refl
    go false false e = rw e refl

count_row_told : (l : LibraryView) (t u : Target) (n : ℕ) (xs : List CountRow) → n ≡ live_count l u → (b : Bool) → is_same t u ≡ b →
    filter (λ s. is_same t s.target) (filter (λ s. not (is_same u s.target)) xs ++ count_rows u n)
    ≡ cond b (count_rows t (live_count l t)) (filter (λ s. is_same t s.target) xs)
count_row_told l t u n xs right b e =
    filter-append (λ s. is_same t s.target) (filter (λ s. not (is_same u s.target)) xs) (count_rows u n)
    ∙ ap (λ x. filter (λ s. is_same t s.target) (filter (λ s. not (is_same u s.target)) xs) ++ x) (row_of_count t u n b e) ∙ go b e
  where
    taken : CountRow → Bool
    taken s = is_same u s.target

    looked : CountRow → Bool
    looked s = is_same t s.target

    others : is_same t u ≡ false → (x : CountRow) → is_same t x.target ≡ true → (b : Bool) → is_same u x.target ≡ b → b ≡ false
    others e x is false f = refl
    others e x is true f = let own : is_same t u ≡ true = ap (is_same t) (same_target u x.target f) ∙ is in absurd (let q = sym own ∙ e in cc)

    go : (b : Bool) → is_same t u ≡ b → filter looked (filter (λ s. not (taken s)) xs) ++ cond b (count_rows u n) []
        ≡ cond b (count_rows t (live_count l t)) (filter looked xs)
    go true e =
        let one : t ≡ u = same_target t u e in
        ap (λ x. x ++ count_rows u n) (filter_gone taken looked xs (λ x is. ap (λ z. is_same z x.target) (sym one) ∙ is))
        ∙ ap (count_rows u) right ∙ ap (λ x. count_rows x (live_count l x)) (sym one)
    go false e =
        append-nil (filter looked (filter (λ s. not (taken s)) xs))
        ∙ filter_kept taken looked xs (λ x is. others e x is (is_same u x.target) refl)

-- the row of a target after changes that are right
pub count_is : (l : LibraryView) (cs : List ChangeView) (rows : Rows) (t : Target) → AllByRecursion (IsRightOf l) cs →
    filter (λ s. is_same t s.target) (done_all cs rows).counts
    ≡ cond (list_any (tells_count t) cs) (count_rows t (live_count l t)) (filter (λ s. is_same t s.target) rows.counts)
count_is l [] rows t right = refl
count_is l (c ∷ cs) rows t right = count_is l cs (done c rows) t right.1 ∙ one c right.0
  where
    either : (a b : Bool) (x y z : List CountRow) → z ≡ cond a x y → cond b x z ≡ cond (a || b) x y
    either true true x y z e = refl
    either true false x y z e = e
    either false true x y z e = refl
    either false false x y z e = e

    one : (c : ChangeView) → IsRightOf l c →
        cond (list_any (tells_count t) cs) (count_rows t (live_count l t)) (filter (λ s. is_same t s.target) (done c rows).counts)
        ≡ cond (tells_count t c || list_any (tells_count t) cs) (count_rows t (live_count l t)) (filter (λ s. is_same t s.target) rows.counts)
    one (CountNow u n) is =
        either (is_same t u) (list_any (tells_count t) cs) (count_rows t (live_count l t)) (filter (λ s. is_same t s.target) rows.counts)
        (filter (λ s. is_same t s.target) (done (CountNow u n) rows).counts) (count_row_told l t u n rows.counts is (is_same t u) refl)
    one (StatusNow card active) is = refl
    one (IdentNew ident) is = absurd is
    one (IdentPurged age) is = absurd is
    one (CardNew card deck place body) is = absurd is
    one (CardGone card) is = absurd is
    one (CardsMoved deck from by) is = absurd is
    one (EntryNew card ord entry) is = absurd is
    one (EntriesGone card) is = absurd is
    one (TargetNew card ord target) is = absurd is
    one (TargetsGone card targets) is = absurd is
