-- The library that rows make decides about them: where they are those of a sound, whole library, it is that one.
use Rattle.upd_examine.proofs.Common.{◌≡◌, ℕ, ◌+◌, ◌<◌, ◌≤◌, Bool, true, false, ◌&&◌, List, length, refl, sym, ap, ◌∙◌, subst, arith, ◌↔◌, IsTrue, and_parts}
use Rattle.upd_examine.proofs.Common.{and_from, DeckView, LibraryView, is_within_limits, IsSound, IsWhole, States, same_of, IsSame, MarkRow, Rows, RunView}
use Rattle.upd_examine.proofs.Common.{rows_of, LibraryRows, AreRowsOf, AreStatesOf, AreLibraryRows, AreSoundRows, AreRunsSound}
use Rattle.std.proofs.Common.{◌^◌, nat_le, sum_by}
use Rattle.std.proofs.lemmas.Bool.Decides.{nat_tests}
use Rattle.std.proofs.lemmas.List.Sums.{sum_by-cons}
use Rattle.upd_text.specs.declared.limits.TheConstants.{MAX_CARDS, MAX_ENTRIES, MAX_HELD, MAX_INTRODUCED, MAX_TARGETS}
use Rattle.upd_core.specs.Limits.{card_count, entry_count, held_count, target_count}
use Rattle.upd_records.specs.Rows.{Shows}
use Rattle.upd_examine.specs.Grown.{is_grown}

-- the cards of `YANK$$$` are few
few_yanks : (l : LibraryView) → is_within_limits l ≡ true → length l.yanks < 2 ^ 32
few_yanks l within =
    let a = and_parts (nat_le (length l.idents) MAX_INTRODUCED && nat_le (held_count l) MAX_HELD && nat_le (card_count l) MAX_CARDS
    && nat_le (entry_count l) MAX_ENTRIES) (nat_le (target_count l) MAX_TARGETS) within in
    let b = and_parts (nat_le (length l.idents) MAX_INTRODUCED && nat_le (held_count l) MAX_HELD && nat_le (card_count l) MAX_CARDS)
    (nat_le (entry_count l) MAX_ENTRIES) a.0 in
    let c = and_parts (nat_le (length l.idents) MAX_INTRODUCED && nat_le (held_count l) MAX_HELD) (nat_le (card_count l) MAX_CARDS) b.0 in
    let most : nat_le (card_count l) MAX_CARDS ≡ true = c.1 in
    let counted = sum_by-cons (λ (d : DeckView). length d.cards) (record { ident = 0; cards = l.yanks }) l.decks in
    small (length l.yanks) (sum_by (λ (d : DeckView). length d.cards) l.decks) l.rest.cards (card_count l) (ap (λ n. l.rest.cards + n) counted) most
  where
    small : (y d r n : ℕ) → n ≡ r + (y + d) → nat_le n MAX_CARDS ≡ true → y < 2 ^ 32
    small y d r n is most = let le : n ≤ MAX_CARDS = grind (arith, nat_tests) in omega arith

-- copies of rows
pub record AreCopies (rows copy : LibraryRows) : Type 0 where
  pub idents : copy.idents.items ≡ rows.idents.items
  pub cards : copy.cards.items ≡ rows.cards.items
  pub entries : copy.entries.items ≡ rows.entries.items
  pub targets : copy.targets.items ≡ rows.targets.items

copied : (tables : Rows) (rows copy : LibraryRows) → AreCopies rows copy → AreRowsOf tables rows → AreRowsOf tables copy
copied tables rows copy same are = record {
  idents = subst (λ xs. IsSame xs tables.idents) (sym same.idents) are.idents;
  cards = subst (λ xs. IsSame xs tables.cards) (sym same.cards) are.cards;
  entries = subst (λ xs. IsSame xs tables.entries) (sym same.entries) are.entries;
  targets = subst (λ xs. IsSame xs tables.targets) (sym same.targets) are.targets;
}

shows_own : (l : LibraryView) → Shows (rows_of l) l
shows_own l = record {
  idents = same_of (rows_of l).idents (rows_of l).idents refl;
  cards = same_of (rows_of l).cards (rows_of l).cards refl;
  entries = same_of (rows_of l).entries (rows_of l).entries refl;
  targets = same_of (rows_of l).targets (rows_of l).targets refl;
}

pub sound_decided : (rows copy : LibraryRows) (states : States) (runs : List RunView) (marks : List MarkRow) (l : LibraryView) (a g b c : Bool)
    → AreCopies rows copy → ((tables : Rows) (k : LibraryView) → IsSound k → IsWhole k → Shows tables k → AreRowsOf tables copy → l ≡ k)
    → (IsTrue a ↔ AreLibraryRows rows l) → g ≡ is_grown l → (IsSound l → length l.yanks < 2 ^ 32 → IsTrue b ↔ AreStatesOf states l)
    → (IsTrue c ↔ AreRunsSound runs marks) → IsTrue (a && (g && (b && c))) ↔ AreSoundRows rows states runs marks
sound_decided rows copy states runs marks l a g b c same whole own grown right kept = (
  (λ t.
      let p = and_parts a (g && (b && c)) t in
      let h = and_parts g (b && c) p.1 in
      let q = and_parts b c h.1 in
      let is = own.0 p.0 in
      record { library = l; own = is; grown = sym grown ∙ h.0; statuses = (right is.sound (few_yanks l is.limits)).0 q.0; stored = kept.0 q.1 }),
  (λ are.
      let k = are.library in
      let one : l ≡ k = whole (rows_of k) k are.own.sound are.own.whole (shows_own k) (copied (rows_of k) rows copy same are.own.own) in
      let is : AreLibraryRows rows l = subst (AreLibraryRows rows) (sym one) are.own in
      let states_are : AreStatesOf states l = subst (AreStatesOf states) (sym one) are.statuses in
      let grown_is : is_grown l ≡ true = subst (λ v. is_grown v ≡ true) (sym one) are.grown in
      and_from a (g && (b && c)) (own.1 is) (and_from g (b && c) (grown ∙ grown_is)
      (and_from b c ((right is.sound (few_yanks l is.limits)).1 states_are) (kept.1 are.stored)))),
)

-- a text that is empty exactly where a test is passed is empty exactly where that holds which the test decides
pub chained : {P : Type 0} (n : ℕ) (b : Bool) → ((n ≡ 0) ↔ IsTrue b) → (IsTrue b ↔ P) → (n ≡ 0) ↔ P
chained n b empty decided = ((λ e. decided.0 (empty.0 e)), (λ p. empty.1 (decided.1 p)))

pub empty_where_true : (n : ℕ) (b : Bool) → n ≡ 0 → b ≡ true → (n ≡ 0) ↔ IsTrue b
empty_where_true n b none is = ((λ _. is), (λ _. none))

pub some_where_false : (n : ℕ) (b : Bool) → 0 < n → b ≡ false → (n ≡ 0) ↔ IsTrue b
some_where_false n b some is = ((λ e. absurd (omega (arith, some, e))), (λ t. absurd (let both = sym t ∙ is in cc)))
