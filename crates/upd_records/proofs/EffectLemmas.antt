-- What changes do to one table at a time: each appends a row, keeps some rows, changes rows in place, or leaves the table unchanged.
use Rattle.std.proofs.Common.{◌≡◌, Bool, true, false, cond, List, [], ◌∷◌, ◌++◌, map, refl, ap, sym, ◌∙◌, append_assoc, append-nil}
use Rattle.std.specs.Prelude.{not, ◌||◌}
use Rattle.std.specs.List.{filter, flat_map, list_any, AllByRecursion}
use Rattle.upd_text.specs.declared.card_ref.CardRef.{CardRef}
use Rattle.upd_core.specs.declared.ident.Ident.{Ident}
use Rattle.upd_records.specs.Rows.{CardRow, EntryRow, TargetRow, Rows, IsSame, same_ref}
use Rattle.upd_records.specs.Changes.{ChangeView, IdentNew, IdentPurged, CardNew, CardGone, CardsMoved, EntryNew, EntriesGone, TargetNew, TargetsGone}
use Rattle.upd_records.specs.Changes.{StatusNow, CountNow, done, done_all, purged_row, moved_row}
use Rattle.upd_records.proofs.CountLemmas.{same_of, same_append, same_map, same_filter}

pub data Effect (A : Type 0) : Type 0 where
  Nothing : Effect A
  Append : A → Effect A
  Keep : (A → Bool) → Effect A
  Alter : (A → A) → Effect A

abbrev pub act : {A : Type 0} → Effect A → List A → List A
act Nothing xs = xs
act (Append x) xs = xs ++ x ∷ []
act (Keep test) xs = filter test xs
act (Alter f) xs = map f xs

abbrev pub all_acts : {A : Type 0} → (ChangeView → Effect A) → List ChangeView → List A → List A
all_acts e [] xs = xs
all_acts e (c ∷ cs) xs = all_acts e cs (act (e c) xs)

-- ---- the four tables of a library

abbrev pub on_idents : ChangeView → Effect Ident
on_idents (IdentNew i) = Append i
on_idents (IdentPurged age) = Alter (purged_row age)
on_idents (CardNew card deck place body) = Nothing
on_idents (CardGone card) = Nothing
on_idents (CardsMoved deck from by) = Nothing
on_idents (EntryNew card ord entry) = Nothing
on_idents (EntriesGone card) = Nothing
on_idents (TargetNew card ord target) = Nothing
on_idents (TargetsGone card targets) = Nothing
on_idents (StatusNow card active) = Nothing
on_idents (CountNow target n) = Nothing

abbrev pub on_cards : ChangeView → Effect CardRow
on_cards (IdentNew i) = Nothing
on_cards (IdentPurged age) = Nothing
on_cards (CardNew card deck place body) = Append (record { card = card; deck = deck; pos = place; body = body })
on_cards (CardGone card) = Keep (λ r. not (same_ref card r.card))
on_cards (CardsMoved deck from by) = Alter (moved_row deck from by)
on_cards (EntryNew card ord entry) = Nothing
on_cards (EntriesGone card) = Nothing
on_cards (TargetNew card ord target) = Nothing
on_cards (TargetsGone card targets) = Nothing
on_cards (StatusNow card active) = Nothing
on_cards (CountNow target n) = Nothing

abbrev pub on_entries : ChangeView → Effect EntryRow
on_entries (IdentNew i) = Nothing
on_entries (IdentPurged age) = Nothing
on_entries (CardNew card deck place body) = Nothing
on_entries (CardGone card) = Nothing
on_entries (CardsMoved deck from by) = Nothing
on_entries (EntryNew card ord entry) = Append (record { card = card; ord = ord; entry = entry })
on_entries (EntriesGone card) = Keep (λ r. not (same_ref card r.card))
on_entries (TargetNew card ord target) = Nothing
on_entries (TargetsGone card targets) = Nothing
on_entries (StatusNow card active) = Nothing
on_entries (CountNow target n) = Nothing

abbrev pub on_targets : ChangeView → Effect TargetRow
on_targets (IdentNew i) = Nothing
on_targets (IdentPurged age) = Nothing
on_targets (CardNew card deck place body) = Nothing
on_targets (CardGone card) = Nothing
on_targets (CardsMoved deck from by) = Nothing
on_targets (EntryNew card ord entry) = Nothing
on_targets (EntriesGone card) = Nothing
on_targets (TargetNew card ord target) = Append (record { card = card; ord = ord; target = target })
on_targets (TargetsGone card targets) = Keep (λ r. not (same_ref card r.card))
on_targets (StatusNow card active) = Nothing
on_targets (CountNow target n) = Nothing

-- ---- what the tables are after changes

table_after : {A : Type 0} (table : Rows → List A) (e : ChangeView → Effect A) → ((c : ChangeView) (rows : Rows) → table (done c rows) ≡ act (e c) (table rows))
    → (cs : List ChangeView) (rows : Rows) → table (done_all cs rows) ≡ all_acts e cs (table rows)
table_after table e one [] rows = refl
table_after table e one (c ∷ cs) rows = table_after table e one cs (done c rows) ∙ ap (all_acts e cs) (one c rows)

idents_one : (c : ChangeView) (rows : Rows) → (done c rows).idents ≡ act (on_idents c) rows.idents
idents_one (IdentNew i) rows = refl
idents_one (IdentPurged age) rows = refl
idents_one (CardNew card deck place body) rows = refl
idents_one (CardGone card) rows = refl
idents_one (CardsMoved deck from by) rows = refl
idents_one (EntryNew card ord entry) rows = refl
idents_one (EntriesGone card) rows = refl
idents_one (TargetNew card ord target) rows = refl
idents_one (TargetsGone card targets) rows = refl
idents_one (StatusNow card active) rows = refl
idents_one (CountNow target n) rows = refl

pub idents_after : (cs : List ChangeView) (rows : Rows) → (done_all cs rows).idents ≡ all_acts on_idents cs rows.idents
idents_after = table_after (λ r. r.idents) on_idents idents_one

pub cards_one : (c : ChangeView) (rows : Rows) → (done c rows).cards ≡ act (on_cards c) rows.cards
cards_one (IdentNew i) rows = refl
cards_one (IdentPurged age) rows = refl
cards_one (CardNew card deck place body) rows = refl
cards_one (CardGone card) rows = refl
cards_one (CardsMoved deck from by) rows = refl
cards_one (EntryNew card ord entry) rows = refl
cards_one (EntriesGone card) rows = refl
cards_one (TargetNew card ord target) rows = refl
cards_one (TargetsGone card targets) rows = refl
cards_one (StatusNow card active) rows = refl
cards_one (CountNow target n) rows = refl

pub cards_after : (cs : List ChangeView) (rows : Rows) → (done_all cs rows).cards ≡ all_acts on_cards cs rows.cards
cards_after = table_after (λ r. r.cards) on_cards cards_one

entries_one : (c : ChangeView) (rows : Rows) → (done c rows).entries ≡ act (on_entries c) rows.entries
entries_one (IdentNew i) rows = refl
entries_one (IdentPurged age) rows = refl
entries_one (CardNew card deck place body) rows = refl
entries_one (CardGone card) rows = refl
entries_one (CardsMoved deck from by) rows = refl
entries_one (EntryNew card ord entry) rows = refl
entries_one (EntriesGone card) rows = refl
entries_one (TargetNew card ord target) rows = refl
entries_one (TargetsGone card targets) rows = refl
entries_one (StatusNow card active) rows = refl
entries_one (CountNow target n) rows = refl

pub entries_after : (cs : List ChangeView) (rows : Rows) → (done_all cs rows).entries ≡ all_acts on_entries cs rows.entries
entries_after = table_after (λ r. r.entries) on_entries entries_one

targets_one : (c : ChangeView) (rows : Rows) → (done c rows).targets ≡ act (on_targets c) rows.targets
targets_one (IdentNew i) rows = refl
targets_one (IdentPurged age) rows = refl
targets_one (CardNew card deck place body) rows = refl
targets_one (CardGone card) rows = refl
targets_one (CardsMoved deck from by) rows = refl
targets_one (EntryNew card ord entry) rows = refl
targets_one (EntriesGone card) rows = refl
targets_one (TargetNew card ord target) rows = refl
targets_one (TargetsGone card targets) rows = refl
targets_one (StatusNow card active) rows = refl
targets_one (CountNow target n) rows = refl

pub targets_after : (cs : List ChangeView) (rows : Rows) → (done_all cs rows).targets ≡ all_acts on_targets cs rows.targets
targets_after = table_after (λ r. r.targets) on_targets targets_one

-- ---- changes one after the other

pub acts_append : {A : Type 0} (e : ChangeView → Effect A) (cs ds : List ChangeView) (xs : List A) → all_acts e (cs ++ ds) xs ≡ all_acts e ds (all_acts e cs xs)
acts_append e [] ds xs = refl
acts_append e (c ∷ cs) ds xs = acts_append e cs ds (act (e c) xs)

pub act_same : {A : Type 0} (f : Effect A) {xs ys : List A} → IsSame xs ys → IsSame (act f xs) (act f ys)
act_same Nothing same = same
act_same (Append x) same = same_append same (same_of (x ∷ []) (x ∷ []) refl)
act_same (Keep test) same = same_filter test same
act_same (Alter f) same = same_map f same

-- the order of rows doesn't matter
pub acts_same : {A : Type 0} (e : ChangeView → Effect A) (cs : List ChangeView) {xs ys : List A} → IsSame xs ys → IsSame (all_acts e cs xs) (all_acts e cs ys)
acts_same e [] same = same
acts_same e (c ∷ cs) same = acts_same e cs (act_same (e c) same)

-- ---- changes that leave a table unchanged

abbrev pub AreIdle : {A : Type 0} → (ChangeView → Effect A) → List ChangeView → Type 0
AreIdle e cs = AllByRecursion (λ c. e c ≡ Nothing) cs

pub idle_acts : {A : Type 0} (e : ChangeView → Effect A) (cs : List ChangeView) (xs : List A) → AreIdle e cs → all_acts e cs xs ≡ xs
idle_acts e [] xs idle = refl
idle_acts e (c ∷ cs) xs idle = ap (λ f. all_acts e cs (act f xs)) idle.0 ∙ idle_acts e cs xs idle.1

-- ---- rows of some cards are deleted

-- whether a reference is in a list
abbrev pub is_in : List CardRef → CardRef → Bool
is_in keys card = list_any (λ k. same_ref k card) keys

abbrev pub without : {A : Type 0} → (A → CardRef) → List CardRef → List A → List A
without card keys xs = filter (λ r. not (is_in keys (card r))) xs

pub without_none : {A : Type 0} (card : A → CardRef) (xs : List A) → without card [] xs ≡ xs
without_none card [] = refl
without_none card (x ∷ xs) = ap (λ t. x ∷ t) (without_none card xs)

pub any_append : {A : Type 0} (test : A → Bool) (xs ys : List A) → list_any test (xs ++ ys) ≡ (list_any test xs || list_any test ys)
any_append test [] ys = refl
any_append test (x ∷ xs) ys = go (test x) (any_append test xs ys)
  where
    go : (b : Bool) → list_any test (xs ++ ys) ≡ (list_any test xs || list_any test ys) → (b || list_any test (xs ++ ys))
        ≡ ((b || list_any test xs) || list_any test ys)
    go true later = refl
    go false later = later

without_both : {A : Type 0} (card : A → CardRef) (ks ls : List CardRef) (xs : List A) → without card ls (without card ks xs) ≡ without card (ks ++ ls) xs
without_both card ks ls [] = refl
without_both card ks ls (x ∷ xs) = rw (any_append (λ k. same_ref k (card x)) ks ls) (go (is_in ks (card x)) (is_in ls (card x)) refl
    (without_both card ks ls xs))
  where
    go : (a b : Bool) → is_in ls (card x) ≡ b → without card ls (without card ks xs) ≡ without card (ks ++ ls) xs
        → filter (λ r. not (is_in ls (card r))) (cond (not a) (x ∷ without card ks xs) (without card ks xs))
        ≡ cond (not (a || b)) (x ∷ without card (ks ++ ls) xs) (without card (ks ++ ls) xs)
    go true b e later = later
    go false true e later = rw e later
    go false false e later = rw e (ap (λ t. x ∷ t) later)

-- each step deletes the rows of some cards
pub acts_without : {Z A : Type 0} (e : ChangeView → Effect A) (card : A → CardRef) (g : Z → List ChangeView) (key : Z → List CardRef)
    → ((z : Z) (xs : List A) → all_acts e (g z) xs ≡ without card (key z) xs) → (zs : List Z) (xs : List A)
    → all_acts e (flat_map g zs) xs ≡ without card (flat_map key zs) xs
acts_without e card g key each [] xs = sym (without_none card xs)
acts_without e card g key each (z ∷ zs) xs =
    acts_append e (g z) (flat_map g zs) xs ∙ acts_without e card g key each zs (all_acts e (g z) xs)
    ∙ ap (λ t. without card (flat_map key zs) t) (each z xs) ∙ without_both card (key z) (flat_map key zs) xs

-- ---- rows are added

-- each step appends some rows
pub acts_appending : {Z A : Type 0} (e : ChangeView → Effect A) (g : Z → List ChangeView) (r : Z → List A)
    → ((z : Z) (xs : List A) → all_acts e (g z) xs ≡ xs ++ r z) → (zs : List Z) (xs : List A)
    → all_acts e (flat_map g zs) xs ≡ xs ++ flat_map r zs
acts_appending e g r each [] xs = sym (append-nil xs)
acts_appending e g r each (z ∷ zs) xs =
    acts_append e (g z) (flat_map g zs) xs ∙ acts_appending e g r each zs (all_acts e (g z) xs)
    ∙ ap (λ t. t ++ flat_map r zs) (each z xs) ∙ append_assoc xs (r z) (flat_map r zs)
