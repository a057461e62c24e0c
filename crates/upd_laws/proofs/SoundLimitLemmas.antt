-- No line takes a library past its limits.
use Rattle.upd_laws.proofs.Common.{◌≡◌, ℕ, ◌≤◌, Bool, true, false, cond, not, ◌&&◌, List, [], ◌∷◌, map, length, refl, sym, ap, subst, arith, nat_tests}
use Rattle.upd_laws.proofs.Common.{sum_by-cons, ◌==◌, nat_le, count_by, filter, Entry, Ident, unheld, without_entries, without_idents, deck_without}
use Rattle.upd_laws.proofs.Common.{decks_without, purged, purged_in, at_first, CardView, DeckView, LibraryView, all_decks, is_deck, is_within_limits}
use Rattle.std.specs.Prelude.{sum_by}
use Rattle.upd_core.specs.declared.library.Rest.{Rest}
use Rattle.upd_text.specs.declared.limits.TheConstants.{MAX_HELD, MAX_INTRODUCED, MAX_CARDS, MAX_ENTRIES, MAX_TARGETS}
use Rattle.upd_core.specs.Limits.{card_count, entry_count, target_count, held_count}
use Rattle.upd_laws.proofs.SoundListLemmas.{and_left, and_right, both}
use Rattle.upd_laws.proofs.SoundCardLemmas.{changed, decks_with, idents_with, rest_with}

-- ---- sums

sum_filtered : {A : Type 0} (f : A → ℕ) (test : A → Bool) (xs : List A) → sum_by f (filter test xs) ≤ sum_by f xs
sum_filtered f test [] = omega arith
sum_filtered f test (x ∷ xs) = go (test x) refl (sum_filtered f test xs)
  where
    go : (b : Bool) → test x ≡ b → sum_by f (filter test xs) ≤ sum_by f xs → sum_by f (filter test (x ∷ xs)) ≤ sum_by f (x ∷ xs)
    go true e rest = let a = sum_by-cons f x xs in let b = sum_by-cons f x (filter test xs) in rw e (omega arith)
    go false e rest = let a = sum_by-cons f x xs in rw e (omega arith)

sum_mapped : {A : Type 0} (f : A → ℕ) (change : A → A) (xs : List A) → ((x : A) → f (change x) ≤ f x) → sum_by f (map change xs) ≤ sum_by f xs
sum_mapped f change [] k = omega arith
sum_mapped f change (x ∷ xs) k =
    let rest = sum_mapped f change xs k in
    let a = sum_by-cons f x xs in
    let b = sum_by-cons f (change x) (map change xs) in
    let c = k x in
    omega arith

sum_at_first : {A : Type 0} (f : A → ℕ) (test : A → Bool) (change : A → A) (xs : List A) → ((x : A) → f (change x) ≤ f x)
    → sum_by f (at_first test change xs) ≤ sum_by f xs
sum_at_first f test change [] k = omega arith
sum_at_first f test change (x ∷ xs) k = go (test x) refl (sum_at_first f test change xs k)
  where
    go : (b : Bool) → test x ≡ b → sum_by f (at_first test change xs) ≤ sum_by f xs → sum_by f (at_first test change (x ∷ xs)) ≤ sum_by f (x ∷ xs)
    go true e rest = let a = sum_by-cons f x xs in let b = sum_by-cons f (change x) xs in let c = k x in rw e (omega arith)
    go false e rest = let a = sum_by-cons f x xs in let b = sum_by-cons f x (at_first test change xs) in rw e (omega arith)

-- ---- fewer of each

length_filtered : {A : Type 0} (test : A → Bool) (xs : List A) → length (filter test xs) ≤ length xs
length_filtered test [] = omega arith
length_filtered test (x ∷ xs) = go (test x) refl (length_filtered test xs)
  where
    go : (b : Bool) → test x ≡ b → length (filter test xs) ≤ length xs → length (filter test (x ∷ xs)) ≤ length (x ∷ xs)
    go true e rest = rw e (omega arith)
    go false e rest = rw e (omega arith)

length_mapped : {A : Type 0} (change : A → A) (xs : List A) → length (map change xs) ≡ length xs
length_mapped change [] = refl
length_mapped change (x ∷ xs) = let rest = length_mapped change xs in omega arith

fewer_cards : (gone : ℕ → Bool) (cards : List CardView) → length (without_idents gone cards) ≤ length cards
fewer_cards gone cards =
    let a = length_filtered (λ (c : CardView). not (gone c.ident)) cards in
    let b = length_mapped (without_entries gone) (filter (λ (c : CardView). not (gone c.ident)) cards) in
    omega arith

-- a sum over cards that no entry less makes greater
fewer_of : (f : CardView → ℕ) (gone : ℕ → Bool) (cards : List CardView) → ((c : CardView) → f (without_entries gone c) ≤ f c)
    → sum_by f (without_idents gone cards) ≤ sum_by f cards
fewer_of f gone cards k =
    let a = sum_mapped f (without_entries gone) (filter (λ (c : CardView). not (gone c.ident)) cards) k in
    let b = sum_filtered f (λ (c : CardView). not (gone c.ident)) cards in
    omega arith

abbrev entries : CardView → ℕ
entries c = length c.history

fewer_entries : (gone : ℕ → Bool) (c : CardView) → length (without_entries gone c).history ≤ length c.history
fewer_entries gone c = length_filtered (λ (e : Entry). not (gone e.ident)) c.history

fewer_in_decks : (f : DeckView → ℕ) (gone : ℕ → Bool) (ds : List DeckView) → ((d : DeckView) → f (deck_without gone d) ≤ f d)
    → sum_by f (decks_without gone ds) ≤ sum_by f ds
fewer_in_decks f gone ds k =
    let a = sum_mapped f (deck_without gone) (filter (λ (d : DeckView). not (gone d.ident)) ds) k in
    let b = sum_filtered f (λ (d : DeckView). not (gone d.ident)) ds in
    omega arith

fewer_held : (gone : ℕ → Bool) (idents : List Ident) → count_by (λ i. i.held) (map (unheld gone) idents) ≤ count_by (λ i. i.held) idents
fewer_held gone idents = sum_mapped (λ (i : Ident). cond i.held 1 0) (unheld gone) idents (λ i. go i.held (not (gone i.age)))
  where
    go : (a b : Bool) → cond (a && b) 1 0 ≤ cond a 1 0
    go true true = omega arith
    go true false = omega arith
    go false b = omega arith

-- ---- limits

-- what a library holds no more of than another
pub record HoldsNoMore (m l : LibraryView) : Type 0 where
  pub idents : length m.idents ≤ length l.idents
  pub held : held_count m ≤ held_count l
  pub cards : card_count m ≤ card_count l
  pub entries : entry_count m ≤ entry_count l
  pub targets : target_count m ≤ target_count l

at_most : (a b n : ℕ) → a ≤ b → nat_le b n ≡ true → nat_le a n ≡ true
at_most a b n h e = grind (arith, nat_tests)

pub no_more : (m l : LibraryView) → HoldsNoMore m l → is_within_limits l ≡ true → is_within_limits m ≡ true
no_more m l less e =
    let four = and_left _ (nat_le (target_count l) MAX_TARGETS) e in
    let three = and_left _ (nat_le (entry_count l) MAX_ENTRIES) four in
    let two = and_left _ (nat_le (card_count l) MAX_CARDS) three in
    both _ _ (both _ _ (both _ _ (both _ _
    (at_most _ _ MAX_INTRODUCED less.idents (and_left _ (nat_le (held_count l) MAX_HELD) two))
    (at_most _ _ MAX_HELD less.held (and_right (nat_le (length l.idents) MAX_INTRODUCED) _ two)))
    (at_most _ _ MAX_CARDS less.cards (and_right _ (nat_le (card_count l) MAX_CARDS) three)))
    (at_most _ _ MAX_ENTRIES less.entries (and_right _ (nat_le (entry_count l) MAX_ENTRIES) four)))
    (at_most _ _ MAX_TARGETS less.targets (and_right _ (nat_le (target_count l) MAX_TARGETS) e))

pub purged_within : (gone : ℕ → Bool) (l : LibraryView) → is_within_limits l ≡ true → is_within_limits (purged gone l) ≡ true
purged_within gone l e = no_more (purged gone l) l less e
  where
    deck_cards : DeckView → ℕ
    deck_cards d = length d.cards

    deck_entries : DeckView → ℕ
    deck_entries d = sum_by entries d.cards

    front : DeckView
    front = record { ident = 0; cards = l.yanks }

    after : DeckView
    after = record { ident = 0; cards = without_idents gone l.yanks }

    less : HoldsNoMore (purged gone l) l
    less = record {
      idents = let a = length_mapped (unheld gone) l.idents in omega arith;
      held = fewer_held gone l.idents;
      cards =
          let a = sum_by-cons deck_cards front l.decks in
          let b = sum_by-cons deck_cards after (decks_without gone l.decks) in
          let c = fewer_cards gone l.yanks in
          let d = fewer_in_decks deck_cards gone l.decks (λ d. fewer_cards gone d.cards) in
          omega arith;
      entries =
          let a = sum_by-cons deck_entries front l.decks in
          let b = sum_by-cons deck_entries after (decks_without gone l.decks) in
          let c = fewer_of entries gone l.yanks (fewer_entries gone) in
          let d = fewer_in_decks deck_entries gone l.decks (λ d. fewer_of entries gone d.cards (fewer_entries gone)) in
          omega arith;
      targets = fewer_of (λ c. length c.targets) gone l.yanks (λ c. omega arith);
    }

pub purged_in_within : (d z : ℕ) (l : LibraryView) → is_within_limits l ≡ true → is_within_limits (purged_in d z l) ≡ true
purged_in_within d z l e = no_more (purged_in d z l) l less e
  where
    gone : ℕ → Bool
    gone x = x == z

    fewer_in : (f : DeckView → ℕ) → ((e : DeckView) → f (changed (without_idents gone) e) ≤ f e)
        → sum_by f (all_decks (purged_in d z l)) ≤ sum_by f (all_decks l)
    fewer_in f k =
        subst (λ ds. sum_by f ds ≤ sum_by f (all_decks l)) (sym (decks_with d (without_idents gone) l))
        (sum_at_first f (is_deck d) (changed (without_idents gone)) (all_decks l) k)

    fewer_targets : (b : Bool) → (d == 0) ≡ b → target_count (purged_in d z l) ≤ target_count l
    fewer_targets true f = rw f (fewer_of (λ c. length c.targets) gone l.yanks (λ c. omega arith))
    fewer_targets false f = rw f (omega arith)

    less : HoldsNoMore (purged_in d z l) l
    less = record {
      idents = let a = ap length (idents_with d (without_idents gone) l) in omega arith;
      held = let a = ap (λ (idents : List Ident). count_by (λ i. i.held) idents) (idents_with d (without_idents gone) l) in omega arith;
      cards =
          let a = fewer_in (λ e. length e.cards) (λ e. fewer_cards gone e.cards) in
          let r = ap (λ (rest : Rest). rest.cards) (rest_with d (without_idents gone) l) in
          omega arith;
      entries =
          let a = fewer_in (λ e. sum_by entries e.cards) (λ e. fewer_of entries gone e.cards (fewer_entries gone)) in
          let r = ap (λ (rest : Rest). rest.entries) (rest_with d (without_idents gone) l) in
          omega arith;
      targets = fewer_targets (d == 0) refl;
    }
