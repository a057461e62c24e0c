-- The rows that are deleted from the rows of all cards.
use Rattle.upd_diff.proofs.Common.{◌≡◌, ℕ, ◌+◌, Bool, true, false, cond, List, [], ◌∷◌, ◌++◌, map, length, refl, ap, sym, ◌∙◌, append-nil, not, ◌==◌, ◌||◌}
use Rattle.upd_diff.proofs.Common.{filter, flat_map, AllByRecursion, CardRef, Entry, Ident, Target, CardView, ref_of, AreApart, CardRow, EntryRow, TargetRow}
use Rattle.upd_diff.proofs.Common.{same_ref, card_rows, entry_rows, target_rows, CardDiffView, DeckDiffView, Kept, Gone, New, card_before, CardGone}
use Rattle.upd_diff.proofs.Common.{EntriesGone, TargetsGone, begins, gone_of, same_ref_own, on_cards, on_entries, on_targets, all_acts, is_in, subst, without}
use Rattle.std.proofs.lemmas.List.Elements.{filter-append}
use Rattle.upd_records.proofs.EqualLemmas.{other_ref}
use Rattle.upd_records.proofs.EffectLemmas.{without_none}

-- ---- which cards are deleted, by a flag at each card diff

one_not_in : (r card : CardRef) (b : Bool) (keys : List CardRef) → (card ≡ r → ⊥) → is_in keys card ≡ false
    → is_in (cond b (r ∷ []) [] ++ keys) card ≡ false
one_not_in r card true keys other later = rw (other_ref r card (λ e. other (sym e))) later
one_not_in r card false keys other later = later

no_rows : {A : Type 0} (b : Bool) (xs : List A) → xs ≡ [] → xs ≡ cond b [] xs
no_rows true xs e = e
no_rows false xs e = refl

module _ (idents : List Ident) (goes : CardDiffView → Bool) where
  abbrev pub key_of : CardDiffView → List CardRef
  key_of f = cond (goes f) (map (ref_of idents) (card_before f)) []

  abbrev pub Fits : List CardRef → CardDiffView → Type 0
  Fits keys f = AllByRecursion (λ c. is_in keys (ref_of idents c) ≡ goes f) (card_before f)

  is_not_in : (card : CardRef) (card_diffs : List CardDiffView) → AllByRecursion (λ r. card ≡ r → ⊥) (map (ref_of idents) (flat_map card_before card_diffs))
      → is_in (flat_map key_of card_diffs) card ≡ false
  is_not_in card [] apart = refl
  is_not_in card (Kept c d ∷ card_diffs) apart = one_not_in (ref_of idents c) card (goes (Kept c d)) _ apart.0 (is_not_in card card_diffs apart.1)
  is_not_in card (Gone c ∷ card_diffs) apart = one_not_in (ref_of idents c) card (goes (Gone c)) _ apart.0 (is_not_in card card_diffs apart.1)
  is_not_in card (New d ∷ card_diffs) apart =
      subst (λ t. is_in (t ++ flat_map key_of card_diffs) card ≡ false) (no_rows (goes (New d)) [] refl) (is_not_in card card_diffs apart)

  -- the keys still fit with that of a card which is not one of these
  still : (k : CardRef) (keys : List CardRef) (card_diffs : List CardDiffView)
      → AllByRecursion (λ r. k ≡ r → ⊥) (map (ref_of idents) (flat_map card_before card_diffs))
      → AllByRecursion (Fits keys) card_diffs → AllByRecursion (Fits (k ∷ keys)) card_diffs
  still k keys [] apart fit = tt
  still k keys (Kept c d ∷ card_diffs) apart fit = ((rw (other_ref k (ref_of idents c) apart.0) fit.0.0, tt), still k keys card_diffs apart.1 fit.1)
  still k keys (Gone c ∷ card_diffs) apart fit = ((rw (other_ref k (ref_of idents c) apart.0) fit.0.0, tt), still k keys card_diffs apart.1 fit.1)
  still k keys (New d ∷ card_diffs) apart fit = (tt, still k keys card_diffs apart fit.1)

  one_fits : (k : CardRef) (b : Bool) (keys : List CardRef) (card_diffs : List CardDiffView)
      → AllByRecursion (λ r. k ≡ r → ⊥) (map (ref_of idents) (flat_map card_before card_diffs)) → is_in keys k ≡ false → AllByRecursion (Fits keys) card_diffs
      → (is_in (cond b (k ∷ []) [] ++ keys) k ≡ b) × AllByRecursion (Fits (cond b (k ∷ []) [] ++ keys)) card_diffs
  one_fits k true keys card_diffs apart none later = (rw (same_ref_own k) refl, still k keys card_diffs apart later)
  one_fits k false keys card_diffs apart none later = (none, later)

  -- the keys of the deleted cards fit
  pub keys_fit : (card_diffs : List CardDiffView) → AreApart (map (ref_of idents) (flat_map card_before card_diffs))
      → AllByRecursion (Fits (flat_map key_of card_diffs)) card_diffs
  keys_fit [] apart = tt
  keys_fit (Kept c d ∷ card_diffs) apart =
      let none = is_not_in (ref_of idents c) card_diffs apart.0 in
      let one = one_fits (ref_of idents c) (goes (Kept c d)) _ card_diffs apart.0 none (keys_fit card_diffs apart.1) in ((one.0, tt), one.1)
  keys_fit (Gone c ∷ card_diffs) apart =
      let none = is_not_in (ref_of idents c) card_diffs apart.0 in
      let one = one_fits (ref_of idents c) (goes (Gone c)) _ card_diffs apart.0 none (keys_fit card_diffs apart.1) in ((one.0, tt), one.1)
  keys_fit (New d ∷ card_diffs) apart =
      (tt, subst (λ t. AllByRecursion (Fits (t ++ flat_map key_of card_diffs)) card_diffs) (no_rows (goes (New d)) [] refl) (keys_fit card_diffs apart))

-- ---- the changes that delete rows, and the flags that say of which cards

-- the card that a row is of
abbrev pub card_of : CardRow → CardRef
card_of r = r.card

abbrev pub entry_of : EntryRow → CardRef
entry_of r = r.card

abbrev pub target_of : TargetRow → CardRef
target_of r = r.card

abbrev pub card_goes : CardDiffView → Bool
card_goes (Kept c d) = false
card_goes (Gone c) = true
card_goes (New d) = false

abbrev pub entries_go : CardDiffView → Bool
entries_go (Kept c d) = not (begins c.history d.history)
entries_go (Gone c) = true
entries_go (New d) = false

abbrev pub targets_go : CardDiffView → Bool
targets_go (Kept c d) = false
targets_go (Gone c) = not (length c.targets == 0)
targets_go (New d) = false

without_one : {A : Type 0} (card : A → CardRef) (k : CardRef) (xs : List A) → filter (λ r. not (same_ref k (card r))) xs ≡ without card (k ∷ []) xs
without_one card k [] = refl
without_one card k (x ∷ xs) = go (same_ref k (card x)) (without_one card k xs)
  where
    go : (b : Bool) → filter (λ r. not (same_ref k (card r))) xs ≡ without card (k ∷ []) xs
        → cond (not b) (x ∷ filter (λ r. not (same_ref k (card r))) xs) (filter (λ r. not (same_ref k (card r))) xs)
        ≡ cond (not (b || false)) (x ∷ without card (k ∷ []) xs) (without card (k ∷ []) xs)
    go true later = later
    go false later = ap (λ t. x ∷ t) later

pub cards_gone : (idents : List Ident) (f : CardDiffView) (xs : List CardRow) → all_acts on_cards (gone_of idents f) xs
    ≡ without card_of (key_of idents card_goes f) xs
cards_gone idents (Kept c d) xs = go (begins c.history d.history)
  where
    go : (b : Bool) → all_acts on_cards (cond b [] (EntriesGone (ref_of idents c) ∷ [])) xs ≡ without card_of [] xs
    go true = sym (without_none card_of xs)
    go false = sym (without_none card_of xs)
cards_gone idents (Gone c) xs = go (length c.targets == 0)
  where
    go : (b : Bool) → all_acts on_cards (cond b [] (TargetsGone (ref_of idents c) c.targets ∷ [])
        ++ EntriesGone (ref_of idents c) ∷ CardGone (ref_of idents c) ∷ []) xs
        ≡ without card_of (ref_of idents c ∷ []) xs
    go true = without_one card_of (ref_of idents c) xs
    go false = without_one card_of (ref_of idents c) xs
cards_gone idents (New d) xs = sym (without_none card_of xs)

pub entries_gone : (idents : List Ident) (f : CardDiffView) (xs : List EntryRow) → all_acts on_entries (gone_of idents f) xs
    ≡ without entry_of (key_of idents entries_go f) xs
entries_gone idents (Kept c d) xs = go (begins c.history d.history)
  where
    go : (b : Bool) → all_acts on_entries (cond b [] (EntriesGone (ref_of idents c) ∷ [])) xs ≡ without entry_of (cond (not b) (ref_of idents c ∷ []) []) xs
    go true = sym (without_none entry_of xs)
    go false = without_one entry_of (ref_of idents c) xs
entries_gone idents (Gone c) xs = go (length c.targets == 0)
  where
    go : (b : Bool) → all_acts on_entries (cond b [] (TargetsGone (ref_of idents c) c.targets ∷ [])
        ++ EntriesGone (ref_of idents c) ∷ CardGone (ref_of idents c) ∷ []) xs
        ≡ without entry_of (ref_of idents c ∷ []) xs
    go true = without_one entry_of (ref_of idents c) xs
    go false = without_one entry_of (ref_of idents c) xs
entries_gone idents (New d) xs = sym (without_none entry_of xs)

pub targets_gone : (idents : List Ident) (f : CardDiffView) (xs : List TargetRow) → all_acts on_targets (gone_of idents f) xs
    ≡ without target_of (key_of idents targets_go f) xs
targets_gone idents (Kept c d) xs = go (begins c.history d.history)
  where
    go : (b : Bool) → all_acts on_targets (cond b [] (EntriesGone (ref_of idents c) ∷ [])) xs ≡ without target_of [] xs
    go true = sym (without_none target_of xs)
    go false = sym (without_none target_of xs)
targets_gone idents (Gone c) xs = go (length c.targets == 0)
  where
    go : (b : Bool) → all_acts on_targets (cond b [] (TargetsGone (ref_of idents c) c.targets ∷ [])
        ++ EntriesGone (ref_of idents c) ∷ CardGone (ref_of idents c) ∷ []) xs
        ≡ without target_of (cond (not b) (ref_of idents c ∷ []) []) xs
    go true = sym (without_none target_of xs)
    go false = without_one target_of (ref_of idents c) xs
targets_gone idents (New d) xs = sym (without_none target_of xs)

-- ---- what is left of the rows

-- rows of a card stay unless the card is flagged
abbrev pub staying : {A : Type 0} → (CardDiffView → Bool) → (CardView → List A) → CardDiffView → List A
staying goes rows f = cond (goes f) [] (flat_map rows (card_before f))

-- rows that are all of one card, as entries and targets of a card are
abbrev pub AreOf : {A : Type 0} → (A → CardRef) → List Ident → (CardView → List A) → Type 0
AreOf card idents rows = (keys : List CardRef) (c : CardView) → without card keys (rows c) ≡ cond (is_in keys (ref_of idents c)) [] (rows c)

rows_without : {A : Type 0} (card : A → CardRef) (x : CardRef) (keys : List CardRef) (r : A) (rest : List A) → card r ≡ x
    → without card keys rest ≡ cond (is_in keys x) [] rest → without card keys (r ∷ rest) ≡ cond (is_in keys x) [] (r ∷ rest)
rows_without card x keys r rest e later = rw e (go (is_in keys x) refl later)
  where
    go : (b : Bool) → is_in keys x ≡ b → without card keys rest ≡ cond (is_in keys x) [] rest
        → cond (not b) (r ∷ without card keys rest) (without card keys rest) ≡ cond b [] (r ∷ rest)
    go true e later = rw e at later
    go false e later = ap (λ t. r ∷ t) (rw e at later)

entries_without : (keys : List CardRef) (x : CardRef) (n : ℕ) (es : List Entry) → without entry_of keys (entry_rows x n es)
    ≡ cond (is_in keys x) [] (entry_rows x n es)
entries_without keys x n [] = no_rows (is_in keys x) [] refl
entries_without keys x n (e ∷ es) = rows_without entry_of x keys _ _ refl (entries_without keys x (n + 1) es)

targets_without : (keys : List CardRef) (x : CardRef) (n : ℕ) (ts : List Target) → without target_of keys (target_rows x n ts)
    ≡ cond (is_in keys x) [] (target_rows x n ts)
targets_without keys x n [] = no_rows (is_in keys x) [] refl
targets_without keys x n (t ∷ ts) = rows_without target_of x keys _ _ refl (targets_without keys x (n + 1) ts)

pub entries_are_of : (idents : List Ident) → AreOf entry_of idents (λ c. entry_rows (ref_of idents c) 0 c.history)
entries_are_of idents keys c = entries_without keys (ref_of idents c) 0 c.history

pub targets_are_of : (idents : List Ident) → AreOf target_of idents (λ c. target_rows (ref_of idents c) 0 c.targets)
targets_are_of idents keys c = targets_without keys (ref_of idents c) 0 c.targets

rows_first : {A : Type 0} (card : A → CardRef) (keys : List CardRef) (b : Bool) (xs rest left : List A) → without card keys xs ≡ cond b [] xs
    → without card keys rest ≡ left → without card keys (xs ++ rest) ≡ cond b [] (xs ++ []) ++ left
rows_first card keys b xs rest left one later =
    filter-append _ xs rest ∙ ap (λ t. t ++ without card keys rest) (one ∙ ap (λ t. cond b [] t) (sym (append-nil xs)))
    ∙ ap (λ t. cond b [] (xs ++ []) ++ t) later

-- where the keys fit, the rows of the flagged cards are deleted
pub rows_left : {A : Type 0} (card : A → CardRef) (idents : List Ident) (rows : CardView → List A) (goes : CardDiffView → Bool) (keys : List CardRef)
    → AreOf card idents rows → (card_diffs : List CardDiffView) → AllByRecursion (Fits idents goes keys) card_diffs
    → without card keys (flat_map rows (flat_map card_before card_diffs)) ≡ flat_map (staying goes rows) card_diffs
rows_left card idents rows goes keys own [] fit = refl
rows_left card idents rows goes keys own (Kept c d ∷ card_diffs) fit =
    rows_first card keys (goes (Kept c d)) (rows c) _ _ (own keys c ∙ ap (λ b. cond b [] (rows c)) fit.0.0)
    (rows_left card idents rows goes keys own card_diffs fit.1)
rows_left card idents rows goes keys own (Gone c ∷ card_diffs) fit =
    rows_first card keys (goes (Gone c)) (rows c) _ _ (own keys c ∙ ap (λ b. cond b [] (rows c)) fit.0.0)
    (rows_left card idents rows goes keys own card_diffs fit.1)
rows_left card idents rows goes keys own (New d ∷ card_diffs) fit =
    rows_left card idents rows goes keys own card_diffs fit.1 ∙ ap (λ t. t ++ flat_map (staying goes rows) card_diffs) (no_rows (goes (New d)) [] refl)

-- the rows of a deck's cards that stay, at their old positions
abbrev pub kept_from : List Ident → ℕ → ℕ → List CardDiffView → List CardRow
kept_from idents d w [] = []
kept_from idents d w (Kept was is ∷ card_diffs) = record { card = ref_of idents was; deck = d; pos = w; body = was.text }
    ∷ kept_from idents d (w + 1) card_diffs
kept_from idents d w (Gone was ∷ card_diffs) = kept_from idents d (w + 1) card_diffs
kept_from idents d w (New is ∷ card_diffs) = kept_from idents d w card_diffs

cards_left_in : (idents : List Ident) (keys : List CardRef) (d w : ℕ) (card_diffs : List CardDiffView) → AllByRecursion (Fits idents card_goes keys) card_diffs
    → without card_of keys (card_rows idents d w (flat_map card_before card_diffs)) ≡ kept_from idents d w card_diffs
cards_left_in idents keys d w [] fit = refl
cards_left_in idents keys d w (Kept c e ∷ card_diffs) fit = rw fit.0.0 (ap (λ t. record {
  card = ref_of idents c;
  deck = d;
  pos = w;
  body = c.text;
} ∷ t) (cards_left_in idents keys d (w + 1) card_diffs fit.1))
cards_left_in idents keys d w (Gone c ∷ card_diffs) fit = rw fit.0.0 (cards_left_in idents keys d (w + 1) card_diffs fit.1)
cards_left_in idents keys d w (New e ∷ card_diffs) fit = cards_left_in idents keys d w card_diffs fit.1

pub cards_left : (idents : List Ident) (keys : List CardRef) (ks : List DeckDiffView)
    → AllByRecursion (λ k. AllByRecursion (Fits idents card_goes keys) k.card_diffs) ks
    → without card_of keys (flat_map (λ k. card_rows idents k.deck 0 (flat_map card_before k.card_diffs)) ks)
    ≡ flat_map (λ k. kept_from idents k.deck 0 k.card_diffs) ks
cards_left idents keys [] fit = refl
cards_left idents keys (k ∷ ks) fit =
    filter-append _ (card_rows idents k.deck 0 (flat_map card_before k.card_diffs)) _
    ∙ ap (λ t. t ++ without card_of keys (flat_map (λ j. card_rows idents j.deck 0 (flat_map card_before j.card_diffs)) ks))
    (cards_left_in idents keys k.deck 0 k.card_diffs fit.0)
    ∙ ap (λ t. kept_from idents k.deck 0 k.card_diffs ++ t) (cards_left idents keys ks fit.1)
