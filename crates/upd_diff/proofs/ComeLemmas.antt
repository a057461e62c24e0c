-- The rows that are inserted, after the rows that stay.
use Rattle.upd_diff.proofs.Common.{◌≡◌, ℕ, ◌+◌, Bool, true, false, cond, List, [], ◌∷◌, ◌++◌, length, drop, refl, ap, sym, subst, ◌∙◌, append_assoc}
use Rattle.upd_diff.proofs.Common.{append-nil, arith, not, ◌==◌, flat_map, AllByRecursion, Decides-eqb, CardRef, Entry, Ident, Target, CardView, ref_of}
use Rattle.upd_diff.proofs.Common.{CardRow, EntryRow, TargetRow, IsSame, card_rows, entry_rows, target_rows, CardDiffView, DeckDiffView, Kept, Gone, New}
use Rattle.upd_diff.proofs.Common.{card_after, IsKept, same_entry, begins, entries_new, targets_new, grown, brought, same_of, count_cons, on_cards}
use Rattle.upd_diff.proofs.Common.{on_entries, on_targets, all_acts, acts_append, Nothing, idle_acts}
use Rattle.std.specs.List.{count_by}
use Rattle.std.proofs.lemmas.Bool.{and_parts}
use Rattle.std.proofs.lemmas.List.{nil_from_length}
use Rattle.upd_records.proofs.CountLemmas.{count_append}
use Rattle.upd_records.proofs.EqualLemmas.{same_entry_is}
use Rattle.upd_records.proofs.EffectLemmas.{acts_appending}
use Rattle.upd_diff.proofs.AllLemmas.{all_joined}
use Rattle.upd_diff.proofs.KindLemmas.{entries_all, targets_all, grown_all}
use Rattle.upd_diff.proofs.GoneLemmas.{entries_go, targets_go, staying}
use Rattle.upd_diff.proofs.MoveLemmas.{kept_row, kept_to}

-- ---- the inserted rows

abbrev pub come_cards : List Ident → ℕ → ℕ → List CardDiffView → List CardRow
come_cards idents d p [] = []
come_cards idents d p (Kept was is ∷ card_diffs) = come_cards idents d (p + 1) card_diffs
come_cards idents d p (Gone was ∷ card_diffs) = come_cards idents d p card_diffs
come_cards idents d p (New is ∷ card_diffs) = kept_row idents d p is ∷ come_cards idents d (p + 1) card_diffs

abbrev pub come_entries : List Ident → CardDiffView → List EntryRow
come_entries idents (Kept was is) =
    cond (begins was.history is.history)
    (entry_rows (ref_of idents was) (length was.history) (drop (length was.history) is.history)) (entry_rows (ref_of idents was) 0 is.history)
come_entries idents (Gone was) = []
come_entries idents (New is) = entry_rows (ref_of idents is) 0 is.history

abbrev pub come_targets : List Ident → CardDiffView → List TargetRow
come_targets idents (Kept was is) = []
come_targets idents (Gone was) = []
come_targets idents (New is) = target_rows (ref_of idents is) 0 is.targets

-- ---- the changes that insert them

entries_come : (card : CardRef) (n : ℕ) (es : List Entry) (xs : List EntryRow) → all_acts on_entries (entries_new card n es) xs ≡ xs ++ entry_rows card n es
entries_come card n [] xs = sym (append-nil xs)
entries_come card n (e ∷ es) xs = entries_come card (n + 1) es _
    ∙ append_assoc xs (record { card = card; ord = n; entry = e } ∷ []) (entry_rows card (n + 1) es)

targets_come : (card : CardRef) (n : ℕ) (ts : List Target) (xs : List TargetRow) → all_acts on_targets (targets_new card n ts) xs ≡ xs ++ target_rows card n ts
targets_come card n [] xs = sym (append-nil xs)
targets_come card n (t ∷ ts) xs = targets_come card (n + 1) ts _
    ∙ append_assoc xs (record { card = card; ord = n; target = t } ∷ []) (target_rows card (n + 1) ts)

cards_brought : (idents : List Ident) (d p : ℕ) (card_diffs : List CardDiffView) (xs : List CardRow) → all_acts on_cards (brought idents d p card_diffs) xs ≡ xs
    ++ come_cards idents d p card_diffs
cards_brought idents d p [] xs = sym (append-nil xs)
cards_brought idents d p (Kept c e ∷ card_diffs) xs =
    acts_append on_cards (grown idents c e) (brought idents d (p + 1) card_diffs) xs
    ∙ ap (all_acts on_cards (brought idents d (p + 1) card_diffs)) (idle_acts on_cards (grown idents c e) xs (grown_all (λ c. on_cards c ≡ Nothing)
    (λ card n e. refl) idents c e))
    ∙ cards_brought idents d (p + 1) card_diffs xs
cards_brought idents d p (Gone c ∷ card_diffs) xs = cards_brought idents d p card_diffs xs
cards_brought idents d p (New e ∷ card_diffs) xs =
    acts_append on_cards (entries_new (ref_of idents e) 0 e.history ++ targets_new (ref_of idents e) 0 e.targets) (brought idents d (p + 1) card_diffs) (xs
    ++ kept_row idents d p e ∷ [])
    ∙ ap (all_acts on_cards (brought idents d (p + 1) card_diffs)) (idle_acts on_cards (entries_new (ref_of idents e) 0 e.history
    ++ targets_new (ref_of idents e) 0 e.targets) (xs ++ kept_row idents d p e ∷ [])
    (all_joined (λ c. on_cards c ≡ Nothing) (entries_new (ref_of idents e) 0 e.history) (targets_new (ref_of idents e) 0 e.targets)
    (entries_all (λ c. on_cards c ≡ Nothing) (λ card n e. refl) (ref_of idents e) 0 e.history)
    (targets_all (λ c. on_cards c ≡ Nothing) (λ card n t. refl) (ref_of idents e) 0 e.targets)))
    ∙ cards_brought idents d (p + 1) card_diffs (xs ++ kept_row idents d p e ∷ [])
    ∙ append_assoc xs (kept_row idents d p e ∷ []) (come_cards idents d (p + 1) card_diffs)

grown_entries : (idents : List Ident) (c e : CardView) (xs : List EntryRow) → all_acts on_entries (grown idents c e) xs ≡ xs ++ come_entries idents (Kept c e)
grown_entries idents c e xs = go (begins c.history e.history)
  where
    go : (b : Bool) → all_acts on_entries (cond b (entries_new (ref_of idents c) (length c.history) (drop (length c.history) e.history))
        (entries_new (ref_of idents c) 0 e.history)) xs
        ≡ xs ++ cond b (entry_rows (ref_of idents c) (length c.history) (drop (length c.history) e.history)) (entry_rows (ref_of idents c) 0 e.history)
    go true = entries_come (ref_of idents c) (length c.history) (drop (length c.history) e.history) xs
    go false = entries_come (ref_of idents c) 0 e.history xs

entries_brought : (idents : List Ident) (d p : ℕ) (card_diffs : List CardDiffView) (xs : List EntryRow)
    → all_acts on_entries (brought idents d p card_diffs) xs ≡ xs
    ++ flat_map (come_entries idents) card_diffs
entries_brought idents d p [] xs = sym (append-nil xs)
entries_brought idents d p (Kept c e ∷ card_diffs) xs =
    acts_append on_entries (grown idents c e) (brought idents d (p + 1) card_diffs) xs
    ∙ ap (all_acts on_entries (brought idents d (p + 1) card_diffs)) (grown_entries idents c e xs)
    ∙ entries_brought idents d (p + 1) card_diffs (xs ++ come_entries idents (Kept c e))
    ∙ append_assoc xs (come_entries idents (Kept c e)) (flat_map (come_entries idents) card_diffs)
entries_brought idents d p (Gone c ∷ card_diffs) xs = entries_brought idents d p card_diffs xs
entries_brought idents d p (New e ∷ card_diffs) xs =
    acts_append on_entries (entries_new (ref_of idents e) 0 e.history ++ targets_new (ref_of idents e) 0 e.targets) (brought idents d (p + 1) card_diffs) xs
    ∙ ap (all_acts on_entries (brought idents d (p + 1) card_diffs)) (acts_append on_entries (entries_new (ref_of idents e) 0 e.history) (targets_new
    (ref_of idents e) 0 e.targets) xs
    ∙ idle_acts on_entries (targets_new (ref_of idents e) 0 e.targets) _ (targets_all (λ c. on_entries c ≡ Nothing) (λ card n t. refl)
    (ref_of idents e) 0 e.targets)
    ∙ entries_come (ref_of idents e) 0 e.history xs)
    ∙ entries_brought idents d (p + 1) card_diffs (xs ++ come_entries idents (New e))
    ∙ append_assoc xs (come_entries idents (New e)) (flat_map (come_entries idents) card_diffs)

targets_brought : (idents : List Ident) (d p : ℕ) (card_diffs : List CardDiffView) (xs : List TargetRow)
    → all_acts on_targets (brought idents d p card_diffs) xs ≡ xs
    ++ flat_map (come_targets idents) card_diffs
targets_brought idents d p [] xs = sym (append-nil xs)
targets_brought idents d p (Kept c e ∷ card_diffs) xs =
    acts_append on_targets (grown idents c e) (brought idents d (p + 1) card_diffs) xs
    ∙ ap (all_acts on_targets (brought idents d (p + 1) card_diffs)) (idle_acts on_targets (grown idents c e) xs (grown_all (λ c. on_targets c ≡ Nothing)
    (λ card n e. refl) idents c e))
    ∙ targets_brought idents d (p + 1) card_diffs xs
targets_brought idents d p (Gone c ∷ card_diffs) xs = targets_brought idents d p card_diffs xs
targets_brought idents d p (New e ∷ card_diffs) xs =
    acts_append on_targets (entries_new (ref_of idents e) 0 e.history ++ targets_new (ref_of idents e) 0 e.targets) (brought idents d (p + 1) card_diffs) xs
    ∙ ap (all_acts on_targets (brought idents d (p + 1) card_diffs)) (acts_append on_targets (entries_new (ref_of idents e) 0 e.history) (targets_new
    (ref_of idents e) 0 e.targets) xs
    ∙ ap (all_acts on_targets (targets_new (ref_of idents e) 0 e.targets)) (idle_acts on_targets (entries_new (ref_of idents e) 0 e.history) xs
    (entries_all (λ c. on_targets c ≡ Nothing) (λ card n e. refl) (ref_of idents e) 0 e.history))
    ∙ targets_come (ref_of idents e) 0 e.targets xs)
    ∙ targets_brought idents d (p + 1) card_diffs (xs ++ come_targets idents (New e))
    ∙ append_assoc xs (come_targets idents (New e)) (flat_map (come_targets idents) card_diffs)

-- of all decks
pub all_cards_brought : (idents : List Ident) (ks : List DeckDiffView) (xs : List CardRow)
    → all_acts on_cards (flat_map (λ k. brought idents k.deck 0 k.card_diffs) ks) xs ≡ xs ++ flat_map (λ k. come_cards idents k.deck 0 k.card_diffs) ks
all_cards_brought idents = acts_appending on_cards (λ k. brought idents k.deck 0 k.card_diffs) (λ k. come_cards idents k.deck 0 k.card_diffs)
    (λ k xs. cards_brought idents k.deck 0 k.card_diffs xs)

pub all_entries_brought : (idents : List Ident) (ks : List DeckDiffView) (xs : List EntryRow)
    → all_acts on_entries (flat_map (λ k. brought idents k.deck 0 k.card_diffs) ks) xs ≡ xs ++ flat_map (λ k. flat_map (come_entries idents) k.card_diffs) ks
all_entries_brought idents = acts_appending on_entries (λ k. brought idents k.deck 0 k.card_diffs) (λ k. flat_map (come_entries idents) k.card_diffs)
    (λ k xs. entries_brought idents k.deck 0 k.card_diffs xs)

pub all_targets_brought : (idents : List Ident) (ks : List DeckDiffView) (xs : List TargetRow)
    → all_acts on_targets (flat_map (λ k. brought idents k.deck 0 k.card_diffs) ks) xs ≡ xs ++ flat_map (λ k. flat_map (come_targets idents) k.card_diffs) ks
all_targets_brought idents = acts_appending on_targets (λ k. brought idents k.deck 0 k.card_diffs) (λ k. flat_map (come_targets idents) k.card_diffs)
    (λ k xs. targets_brought idents k.deck 0 k.card_diffs xs)

-- ---- the rows that stay and the inserted rows are the rows of the cards after

entry_rows_append : (card : CardRef) (n m : ℕ) (es fs : List Entry) → m ≡ n + length es → entry_rows card n (es ++ fs) ≡ entry_rows card n es
    ++ entry_rows card m fs
entry_rows_append card n m [] fs e = let same : n ≡ m = omega arith in ap (λ k. entry_rows card k fs) same
entry_rows_append card n m (x ∷ es) fs e = ap (λ t. record { card = card; ord = n; entry = x } ∷ t) (entry_rows_append card (n + 1) m es fs (omega arith))

pub begins_is : (es fs : List Entry) → begins es fs ≡ true → fs ≡ es ++ drop (length es) fs
begins_is [] fs e = refl
begins_is (x ∷ es) [] e = absurd (cc)
begins_is (x ∷ es) (y ∷ fs) e =
    let p = same_entry_is x y (and_parts (same_entry x y) (begins es fs) e).0 in
    let q = begins_is es fs (and_parts (same_entry x y) (begins es fs) e).1 in
    λ i. sym p i ∷ q i

-- the rows of a card's entries, and of its targets
abbrev pub entries_row : List Ident → CardView → List EntryRow
entries_row idents c = entry_rows (ref_of idents c) 0 c.history

abbrev pub targets_row : List Ident → CardView → List TargetRow
targets_row idents c = target_rows (ref_of idents c) 0 c.targets

kept_entries : (idents : List Ident) (c : CardView) (h : List Entry)
    → (staying entries_go (entries_row idents) (Kept c (record c { history = h })) ++ come_entries idents (Kept c (record c { history = h })))
    ≡ entry_rows (ref_of idents c) 0 h ++ []
kept_entries idents c h = go (begins c.history h) refl
  where
    go : (b : Bool) → begins c.history h ≡ b
        → (cond (not b) [] (entries_row idents c ++ []) ++ cond b (entry_rows (ref_of idents c) (length c.history) (drop (length c.history) h))
        (entry_rows (ref_of idents c) 0 h))
        ≡ entry_rows (ref_of idents c) 0 h ++ []
    go true is =
        ap (λ t. t ++ entry_rows (ref_of idents c) (length c.history) (drop (length c.history) h)) (append-nil (entries_row idents c))
        ∙ sym (entry_rows_append (ref_of idents c) 0 (length c.history) c.history (drop (length c.history) h) (omega arith))
        ∙ ap (λ t. entry_rows (ref_of idents c) 0 t) (sym (begins_is c.history h is)) ∙ sym (append-nil (entry_rows (ref_of idents c) 0 h))
    go false is = sym (append-nil (entry_rows (ref_of idents c) 0 h))

pub entries_woven : (idents : List Ident) (f : CardDiffView) → IsKept f
    → IsSame (staying entries_go (entries_row idents) f ++ come_entries idents f) (flat_map (entries_row idents) (card_after f))
entries_woven idents (Kept c d) kept =
    subst (λ x. IsSame (staying entries_go (entries_row idents) (Kept c x) ++ come_entries idents (Kept c x)) (entries_row idents x ++ [])) (sym kept)
    (same_of _ _ (kept_entries idents c d.history))
entries_woven idents (Gone c) kept = same_of [] [] refl
entries_woven idents (New d) kept = same_of _ _ (go (entries_go (New d)))
  where
    go : (b : Bool) → (cond b [] [] ++ entries_row idents d) ≡ entries_row idents d ++ []
    go true = sym (append-nil (entries_row idents d))
    go false = sym (append-nil (entries_row idents d))

pub targets_woven : (idents : List Ident) (f : CardDiffView) → IsKept f
    → IsSame (staying targets_go (targets_row idents) f ++ come_targets idents f) (flat_map (targets_row idents) (card_after f))
targets_woven idents (Kept c d) kept =
    subst (λ x. IsSame (staying targets_go (targets_row idents) (Kept c x) ++ come_targets idents (Kept c x)) (targets_row idents x ++ [])) (sym kept)
    (same_of _ _ (append-nil (targets_row idents c ++ [])))
targets_woven idents (Gone c) kept = go (length c.targets == 0) refl
  where
    go : (b : Bool) → (length c.targets == 0) ≡ b → IsSame (cond (not b) [] (targets_row idents c ++ []) ++ []) []
    go true is = let none = nil_from_length c.targets ((Decides-eqb (length c.targets) 0).0 is) in same_of _ _ (rw none refl)
    go false is = same_of [] [] refl
targets_woven idents (New d) kept = same_of _ _ (sym (append-nil (targets_row idents d)))

row_kept : (idents : List Ident) (d p : ℕ) (c e : CardView) → e ≡ record c { history = e.history } → kept_row idents d p c ≡ kept_row idents d p e
row_kept idents d p c e kept = ap (kept_row idents d p) (sym kept)

cards_woven_in : (idents : List Ident) (d p : ℕ) (card_diffs : List CardDiffView) → AllByRecursion IsKept card_diffs → (test : CardRow → Bool)
    → count_by test (kept_to idents d p card_diffs) + count_by test (come_cards idents d p card_diffs)
    ≡ count_by test (card_rows idents d p (flat_map card_after card_diffs))
cards_woven_in idents d p [] kept test = refl
cards_woven_in idents d p (Kept c e ∷ card_diffs) kept test =
    let later = cards_woven_in idents d (p + 1) card_diffs kept.1 test in
    let row = row_kept idents d p c e kept.0 in
    let front = count_cons test (kept_row idents d p c) (kept_to idents d (p + 1) card_diffs) in
    let wanted = ap (λ r. count_by test (r ∷ card_rows idents d (p + 1) (flat_map card_after card_diffs))) row in
    let whole = count_cons test (kept_row idents d p c) (card_rows idents d (p + 1) (flat_map card_after card_diffs)) in
    omega arith
cards_woven_in idents d p (Gone c ∷ card_diffs) kept test = cards_woven_in idents d p card_diffs kept.1 test
cards_woven_in idents d p (New e ∷ card_diffs) kept test =
    let later = cards_woven_in idents d (p + 1) card_diffs kept.1 test in
    let front = count_cons test (kept_row idents d p e) (come_cards idents d (p + 1) card_diffs) in
    let whole = count_cons test (kept_row idents d p e) (card_rows idents d (p + 1) (flat_map card_after card_diffs)) in
    omega arith

pub cards_woven : (idents : List Ident) (k : DeckDiffView) → AllByRecursion IsKept k.card_diffs
    → IsSame (kept_to idents k.deck 0 k.card_diffs ++ come_cards idents k.deck 0 k.card_diffs) (card_rows idents k.deck 0 (flat_map card_after k.card_diffs))
cards_woven idents k kept = record {
  passes = λ test. count_append test (kept_to idents k.deck 0 k.card_diffs) (come_cards idents k.deck 0 k.card_diffs)
      ∙ cards_woven_in idents k.deck 0 k.card_diffs kept test;
}
