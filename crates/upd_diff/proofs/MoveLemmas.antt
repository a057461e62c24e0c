-- The moves take the cards that stay to their new positions.
use Rattle.upd_diff.proofs.Common.{◌≡◌, ℕ, ◌+◌, ◌-◌, ◌<◌, ◌≤◌, Bool, true, false, cond, List, [], ◌∷◌, ◌++◌, map, length, ◌^◌, refl, ap, sym, arith, nat_lt}
use Rattle.upd_diff.proofs.Common.{nat_le, ◌==◌, ◌&&◌, pos, negsuc, IsTrue, flat_map, AllByRecursion, Decides-eqb, nat_tests, Ident, CardView, ref_of}
use Rattle.upd_diff.proofs.Common.{AreApart, CardRow, ChangeView, CardsMoved, moved_row, CardDiffView, DeckDiffView, Kept, Gone, New, card_before}
use Rattle.upd_diff.proofs.Common.{deck_before, standing, moves, move_to, distance, CanMove}
use Rattle.std.proofs.lemmas.Bool.{ltb-true}
use Rattle.upd_records.specs.Changes.{shifted}
use Rattle.upd_diff.specs.CardDiffs.{IsShort}
use Rattle.upd_diff.proofs.AllLemmas.{all_joined, each_flat}
use Rattle.upd_diff.proofs.FitLemmas.{Carry, carry_none, carry_append, carry_joined, IsMove, are_moves}
use Rattle.upd_diff.proofs.KindLemmas.{moves_all}
use Rattle.upd_diff.proofs.GoneLemmas.{kept_from}

-- the row of a card that stays, at its new position
abbrev pub kept_row : List Ident → ℕ → ℕ → CardView → CardRow
kept_row idents d p c = record { card = ref_of idents c; deck = d; pos = p; body = c.text }

-- the rows of a deck's cards that stay, at their new positions
abbrev pub kept_to : List Ident → ℕ → ℕ → List CardDiffView → List CardRow
kept_to idents d p [] = []
kept_to idents d p (Kept was is ∷ card_diffs) = kept_row idents d p was ∷ kept_to idents d (p + 1) card_diffs
kept_to idents d p (Gone was ∷ card_diffs) = kept_to idents d p card_diffs
kept_to idents d p (New is ∷ card_diffs) = kept_to idents d (p + 1) card_diffs

-- ---- one move

way_is : (w p v q : ℕ) → w ≤ v → v + p ≡ q + w → shifted (distance w p) v ≡ q
way_is w p v q behind e = go (nat_lt p w) refl
  where
    go : (b : Bool) → nat_lt p w ≡ b → shifted (cond b (negsuc (w - p - 1)) (pos (p - w))) v ≡ q
    go true is = let less : p < w = ltb-true p w is in omega arith
    go false is = let more : w ≤ p = grind (arith, nat_tests) in omega arith

le_test : (w v : ℕ) → w ≤ v → nat_le w v ≡ true
le_test w v h = grind (arith, nat_tests)

lt_test : (w v : ℕ) → v < w → nat_le w v ≡ false
lt_test w v h = grind (arith, nat_tests)

eq_test : (d : ℕ) → (d == d) ≡ true
eq_test d = (Decides-eqb d d).1 refl

shift : (idents : List Ident) (d w p v q : ℕ) (card_diffs : List CardDiffView) → w ≤ v → v + p ≡ q + w
    → map (moved_row d w (distance w p)) (kept_from idents d v card_diffs) ≡ kept_from idents d q card_diffs
shift idents d w p v q [] behind e = refl
shift idents d w p v q (Kept c x ∷ card_diffs) behind e =
    rw (eq_test d, le_test w v behind, way_is w p v q behind e)
    (ap (λ t. record { card = ref_of idents c; deck = d; pos = q; body = c.text } ∷ t)
    (shift idents d w p (v + 1) (q + 1) card_diffs (omega arith) (omega arith)))
shift idents d w p v q (Gone c ∷ card_diffs) behind e = shift idents d w p (v + 1) (q + 1) card_diffs (omega arith) (omega arith)
shift idents d w p v q (New x ∷ card_diffs) behind e = shift idents d w p v q card_diffs behind e

-- a position at or after the start of a move stays valid: the cards are fewer than 2^32
can_shift : (w p v : ℕ) → w ≤ v → v < 2 ^ 32 → v + p < 2 ^ 32 + w → CanMove (distance w p) v
can_shift w p v behind within later = go (nat_lt p w) refl
  where
    go : (b : Bool) → nat_lt p w ≡ b → CanMove (cond b (negsuc (w - p - 1)) (pos (p - w))) v
    go true is = let less : p < w = ltb-true p w is in (omega arith, omega arith)
    go false is = let more : w ≤ p = grind (arith, nat_tests) in omega arith

shift_fits : (idents : List Ident) (d w p v : ℕ) (card_diffs : List CardDiffView) → w ≤ v → v + length card_diffs < 2 ^ 32
    → v + p + length card_diffs < 2 ^ 32 + w
    → AllByRecursion (λ r. IsTrue ((r.deck == d) && nat_le w r.pos) → CanMove (distance w p) r.pos) (kept_from idents d v card_diffs)
shift_fits idents d w p v [] behind within later = tt
shift_fits idents d w p v (Kept c x ∷ card_diffs) behind within later =
    (λ _. can_shift w p v behind (omega arith) (omega arith), shift_fits idents d w p (v + 1) card_diffs (omega arith) (omega arith) (omega arith))
shift_fits idents d w p v (Gone c ∷ card_diffs) behind within later = shift_fits idents d w p (v + 1) card_diffs (omega arith) (omega arith) (omega arith)
shift_fits idents d w p v (New x ∷ card_diffs) behind within later = shift_fits idents d w p v card_diffs behind (omega arith) (omega arith)

move_does : (idents : List Ident) (d w p : ℕ) (card_diffs : List CardDiffView) → w + length card_diffs < 2 ^ 32 → p + length card_diffs < 2 ^ 32
    → Carry (move_to d w p) (kept_from idents d w card_diffs) (kept_from idents d p card_diffs)
move_does idents d w p card_diffs short later = go (w == p) refl
  where
    go : (b : Bool) → (w == p) ≡ b → Carry (cond b [] (CardsMoved d w (distance w p) ∷ [])) (kept_from idents d w card_diffs) (kept_from idents d p card_diffs)
    go true is = let same : w ≡ p = (Decides-eqb w p).0 is in record { fit = tt; are = ap (λ n. kept_from idents d n card_diffs) same }
    go false is = record {
      fit = (shift_fits idents d w p w card_diffs (omega arith) short (omega arith), tt);
      are = shift idents d w p w p card_diffs (omega arith) (omega arith);
    }

-- ---- rows that moves leave unchanged

-- rows of other decks, and rows in front of what moves
abbrev pub IsFixed : ℕ → ℕ → ℕ → CardRow → Type 0
IsFixed d w p r = r.deck ≡ d → (r.pos < w) × (r.pos < p)

fixed_row : (d w p : ℕ) (r : CardRow) → IsFixed d w p r → moved_row d w (distance w p) r ≡ r
fixed_row d w p r fixed = go (r.deck == d) refl (nat_le w r.pos) refl
  where
    go : (a : Bool) → (r.deck == d) ≡ a → (b : Bool) → nat_le w r.pos ≡ b → cond (a && b) (record r { pos = shifted (distance w p) r.pos }) r ≡ r
    go true is true le = let f = fixed ((Decides-eqb r.deck d).0 is) in absurd (no (lt_test w r.pos f.0))
      where
        no : nat_le w r.pos ≡ false → ⊥
        no e = cc
    go true is false le = refl
    go false is b le = refl

fixed_rows : (d w p : ℕ) (rows : List CardRow) → AllByRecursion (IsFixed d w p) rows → map (moved_row d w (distance w p)) rows ≡ rows
fixed_rows d w p [] fixed = refl
fixed_rows d w p (r ∷ rows) fixed = rw (fixed_row d w p r fixed.0) (ap (λ t. r ∷ t) (fixed_rows d w p rows fixed.1))

weaker : (d w p v q : ℕ) (rows : List CardRow) → ((n : ℕ) → n < w → n < p → (n < v) × (n < q)) → AllByRecursion (IsFixed d w p) rows
    → AllByRecursion (IsFixed d v q) rows
weaker d w p v q [] h fixed = tt
weaker d w p v q (r ∷ rows) h fixed = (λ e. let f = fixed.0 e in h r.pos f.0 f.1, weaker d w p v q rows h fixed.1)

fixed_fits : (d w p : ℕ) (rows : List CardRow) → AllByRecursion (IsFixed d w p) rows
    → AllByRecursion (λ r. IsTrue ((r.deck == d) && nat_le w r.pos) → CanMove (distance w p) r.pos) rows
fixed_fits d w p [] fixed = tt
fixed_fits d w p (r ∷ rows) fixed = (λ moved. go (r.deck == d) refl moved, fixed_fits d w p rows fixed.1)
  where
    go : (a : Bool) → (r.deck == d) ≡ a → (a && nat_le w r.pos) ≡ true → CanMove (distance w p) r.pos
    go true is le = let less = (fixed.0 ((Decides-eqb r.deck d).0 is)).0 in absurd (no (lt_test w r.pos less))
      where
        no : nat_le w r.pos ≡ false → ⊥
        no e = cc
    go false is le = absurd (cc)

move_fixes : (d w p : ℕ) (rows : List CardRow) → AllByRecursion (IsFixed d w p) rows → Carry (move_to d w p) rows rows
move_fixes d w p rows fixed = go (w == p)
  where
    go : (b : Bool) → Carry (cond b [] (CardsMoved d w (distance w p) ∷ [])) rows rows
    go true = carry_none rows
    go false = record { fit = (fixed_fits d w p rows fixed, tt); are = fixed_rows d w p rows fixed }

moves_fix : (d w p : ℕ) (card_diffs : List CardDiffView) (rows : List CardRow) → AllByRecursion (IsFixed d w p) rows → Carry (moves d w p card_diffs) rows rows
moves_fix d w p [] rows fixed = carry_none rows
moves_fix d w p (Kept c e ∷ card_diffs) rows fixed =
    carry_append (move_to d w p) (moves d (p + 1) (p + 1) card_diffs) rows rows rows (move_fixes d w p rows fixed)
    (moves_fix d (p + 1) (p + 1) card_diffs rows (weaker d w p (p + 1) (p + 1) rows (λ n a b. (omega arith, omega arith)) fixed))
moves_fix d w p (Gone c ∷ card_diffs) rows fixed = moves_fix d (w + 1) p card_diffs rows (weaker d w p (w + 1) p rows (λ n a b. (omega arith, b)) fixed)
moves_fix d w p (New e ∷ card_diffs) rows fixed = moves_fix d w (p + 1) card_diffs rows (weaker d w p w (p + 1) rows (λ n a b. (a, omega arith)) fixed)

-- ---- the moves of a deck

moves_do : (idents : List Ident) (d w p : ℕ) (card_diffs : List CardDiffView) → w + length card_diffs < 2 ^ 32 → p + length card_diffs < 2 ^ 32
    → Carry (moves d w p card_diffs) (kept_from idents d w card_diffs) (kept_to idents d p card_diffs)
moves_do idents d w p [] short later = carry_none []
moves_do idents d w p (Kept c e ∷ card_diffs) short later =
    carry_append (move_to d w p) (moves d (p + 1) (p + 1) card_diffs) (kept_from idents d w (Kept c e ∷ card_diffs))
    (kept_from idents d p (Kept c e ∷ card_diffs))
    (kept_to idents d p (Kept c e ∷ card_diffs)) (move_does idents d w p (Kept c e ∷ card_diffs) short later)
    (carry_joined (moves d (p + 1) (p + 1) card_diffs) (kept_row idents d p c ∷ []) (kept_from idents d (p + 1) card_diffs) (kept_row idents d p c ∷ [])
    (kept_to idents d (p + 1) card_diffs) (moves_all IsMove are_moves d (p + 1) (p + 1) card_diffs)
    (moves_fix d (p + 1) (p + 1) card_diffs (kept_row idents d p c ∷ []) (λ _. (omega arith, omega arith), tt))
    (moves_do idents d (p + 1) (p + 1) card_diffs (omega arith) (omega arith)))
moves_do idents d w p (Gone c ∷ card_diffs) short later = moves_do idents d (w + 1) p card_diffs (omega arith) (omega arith)
moves_do idents d w p (New e ∷ card_diffs) short later = moves_do idents d w (p + 1) card_diffs (omega arith) (omega arith)

-- ---- the moves of all decks, where no two decks that had cards have the same serial

abbrev pub ages_before : List DeckDiffView → List ℕ
ages_before ks = map (λ d. d.ident) (standing (map deck_before ks))

-- where a deck had no cards nothing is kept
none_from : (idents : List Ident) (d w : ℕ) (card_diffs : List CardDiffView) → flat_map card_before card_diffs ≡ [] → kept_from idents d w card_diffs ≡ []
none_from idents d w [] e = refl
none_from idents d w (Kept c x ∷ card_diffs) e = absurd (cc)
none_from idents d w (Gone c ∷ card_diffs) e = absurd (cc)
none_from idents d w (New x ∷ card_diffs) e = none_from idents d w card_diffs e

none_to : (idents : List Ident) (d p : ℕ) (card_diffs : List CardDiffView) → flat_map card_before card_diffs ≡ [] → kept_to idents d p card_diffs ≡ []
none_to idents d p [] e = refl
none_to idents d p (Kept c x ∷ card_diffs) e = absurd (cc)
none_to idents d p (Gone c ∷ card_diffs) e = absurd (cc)
none_to idents d p (New x ∷ card_diffs) e = none_to idents d (p + 1) card_diffs e

none_moves : (d w p : ℕ) (card_diffs : List CardDiffView) → flat_map card_before card_diffs ≡ [] → moves d w p card_diffs ≡ []
none_moves d w p [] e = refl
none_moves d w p (Kept c x ∷ card_diffs) e = absurd (cc)
none_moves d w p (Gone c ∷ card_diffs) e = absurd (cc)
none_moves d w p (New x ∷ card_diffs) e = none_moves d w (p + 1) card_diffs e

elsewhere_from : (idents : List Ident) (d a w p v : ℕ) (card_diffs : List CardDiffView) → (d ≡ a → ⊥)
    → AllByRecursion (IsFixed d w p) (kept_from idents a v card_diffs)
elsewhere_from idents d a w p v [] differ = tt
elsewhere_from idents d a w p v (Kept c x ∷ card_diffs) differ = (λ e. absurd (differ (sym e)), elsewhere_from idents d a w p (v + 1) card_diffs differ)
elsewhere_from idents d a w p v (Gone c ∷ card_diffs) differ = elsewhere_from idents d a w p (v + 1) card_diffs differ
elsewhere_from idents d a w p v (New x ∷ card_diffs) differ = elsewhere_from idents d a w p v card_diffs differ

elsewhere_to : (idents : List Ident) (d a w p v : ℕ) (card_diffs : List CardDiffView) → (d ≡ a → ⊥)
    → AllByRecursion (IsFixed d w p) (kept_to idents a v card_diffs)
elsewhere_to idents d a w p v [] differ = tt
elsewhere_to idents d a w p v (Kept c x ∷ card_diffs) differ = (λ e. absurd (differ (sym e)), elsewhere_to idents d a w p (v + 1) card_diffs differ)
elsewhere_to idents d a w p v (Gone c ∷ card_diffs) differ = elsewhere_to idents d a w p v card_diffs differ
elsewhere_to idents d a w p v (New x ∷ card_diffs) differ = elsewhere_to idents d a w p (v + 1) card_diffs differ

-- the rows that stay of all decks, before the moves and after them, and the moves
abbrev pub all_from : List Ident → List DeckDiffView → List CardRow
all_from idents ks = flat_map (λ k. kept_from idents k.deck 0 k.card_diffs) ks

abbrev pub all_to : List Ident → List DeckDiffView → List CardRow
all_to idents ks = flat_map (λ k. kept_to idents k.deck 0 k.card_diffs) ks

abbrev pub all_moves : List DeckDiffView → List ChangeView
all_moves ks = flat_map (λ k. moves k.deck 0 0 k.card_diffs) ks

-- the decks that had cards, where the first one had these
abbrev ages_with : DeckDiffView → List CardView → List DeckDiffView → List ℕ
ages_with k cards ks = map (λ d. d.ident) (standing (record { ident = k.deck; cards = cards } ∷ map deck_before ks))

all_moves_are : (ks : List DeckDiffView) → AllByRecursion IsMove (all_moves ks)
all_moves_are = each_flat IsMove (λ k. moves k.deck 0 0 k.card_diffs) (λ k. moves_all IsMove are_moves k.deck 0 0 k.card_diffs)

-- the rows of other decks stay under the moves of one
others_stay : (idents : List Ident) (d : ℕ) (ks : List DeckDiffView) → AllByRecursion (λ a. d ≡ a → ⊥) (ages_before ks)
    → AllByRecursion (IsFixed d 0 0) (all_from idents ks)
others_stay idents d [] apart = tt
others_stay idents d (k ∷ ks) apart = go (flat_map card_before k.card_diffs) refl apart (others_stay idents d ks)
  where
    go : (cards : List CardView) → flat_map card_before k.card_diffs ≡ cards → AllByRecursion (λ a. d ≡ a → ⊥) (ages_with k cards ks)
        → (AllByRecursion (λ a. d ≡ a → ⊥) (ages_before ks) → AllByRecursion (IsFixed d 0 0) (all_from idents ks))
        → AllByRecursion (IsFixed d 0 0) (kept_from idents k.deck 0 k.card_diffs ++ all_from idents ks)
    go [] none apart later = rw (none_from idents k.deck 0 k.card_diffs none) (later apart)
    go (c ∷ cs) some apart later =
        all_joined (IsFixed d 0 0) (kept_from idents k.deck 0 k.card_diffs) (all_from idents ks) (elsewhere_from idents d k.deck 0 0 0 k.card_diffs apart.0)
        (later apart.1)

-- the rows of one deck stay under the moves of others
under_others : (idents : List Ident) (d p : ℕ) (card_diffs : List CardDiffView) (ks : List DeckDiffView) → AllByRecursion (λ a. d ≡ a → ⊥) (ages_before ks)
    → Carry (all_moves ks) (kept_to idents d p card_diffs) (kept_to idents d p card_diffs)
under_others idents d p card_diffs [] apart = carry_none (kept_to idents d p card_diffs)
under_others idents d p card_diffs (k ∷ ks) apart = go (flat_map card_before k.card_diffs) refl apart (under_others idents d p card_diffs ks)
  where
    go : (cards : List CardView) → flat_map card_before k.card_diffs ≡ cards → AllByRecursion (λ a. d ≡ a → ⊥) (ages_with k cards ks)
        → (AllByRecursion (λ a. d ≡ a → ⊥) (ages_before ks) → Carry (all_moves ks) (kept_to idents d p card_diffs) (kept_to idents d p card_diffs))
        → Carry (moves k.deck 0 0 k.card_diffs ++ all_moves ks) (kept_to idents d p card_diffs) (kept_to idents d p card_diffs)
    go [] none apart later = rw (none_moves k.deck 0 0 k.card_diffs none) (later apart)
    go (c ∷ cs) some apart later =
        carry_append (moves k.deck 0 0 k.card_diffs) (all_moves ks) (kept_to idents d p card_diffs) (kept_to idents d p card_diffs)
        (kept_to idents d p card_diffs)
        (moves_fix k.deck 0 0 k.card_diffs (kept_to idents d p card_diffs) (elsewhere_to idents k.deck d 0 0 p card_diffs (λ e. apart.0 (sym e))))
        (later apart.1)

pub all_moves_do : (idents : List Ident) (ks : List DeckDiffView) → AreApart (ages_before ks) → AllByRecursion IsShort ks
    → Carry (all_moves ks) (all_from idents ks) (all_to idents ks)
all_moves_do idents [] apart short = carry_none []
all_moves_do idents (k ∷ ks) apart short = go (flat_map card_before k.card_diffs) refl apart (λ a. all_moves_do idents ks a short.1)
  where
    few : length k.card_diffs < 2 ^ 32 → 0 + length k.card_diffs < 2 ^ 32
    few h = omega arith

    go : (cards : List CardView) → flat_map card_before k.card_diffs ≡ cards → AreApart (ages_with k cards ks)
        → (AreApart (ages_before ks) → Carry (all_moves ks) (all_from idents ks) (all_to idents ks))
        → Carry (moves k.deck 0 0 k.card_diffs ++ all_moves ks) (kept_from idents k.deck 0 k.card_diffs ++ all_from idents ks) (all_to idents (k ∷ ks))
    go [] none apart later = rw (
      none_moves k.deck 0 0 k.card_diffs none,
      none_from idents k.deck 0 k.card_diffs none,
      none_to idents k.deck 0 k.card_diffs none,
    ) (later apart)
    go (c ∷ cs) some apart later =
        carry_append (moves k.deck 0 0 k.card_diffs) (all_moves ks) (kept_from idents k.deck 0 k.card_diffs ++ all_from idents ks)
        (kept_to idents k.deck 0 k.card_diffs ++ all_from idents ks) (all_to idents (k ∷ ks))
        (carry_joined (moves k.deck 0 0 k.card_diffs) (kept_from idents k.deck 0 k.card_diffs) (all_from idents ks) (kept_to idents k.deck 0 k.card_diffs)
        (all_from idents ks)
        (moves_all IsMove are_moves k.deck 0 0 k.card_diffs) (moves_do idents k.deck 0 0 k.card_diffs (few short.0) (few short.0))
        (moves_fix k.deck 0 0 k.card_diffs (all_from idents ks) (others_stay idents k.deck ks apart.0)))
        (carry_joined (all_moves ks) (kept_to idents k.deck 0 k.card_diffs) (all_from idents ks) (kept_to idents k.deck 0 k.card_diffs) (all_to idents ks)
        (all_moves_are ks)
        (under_others idents k.deck 0 k.card_diffs ks apart.0) (later apart.1))
