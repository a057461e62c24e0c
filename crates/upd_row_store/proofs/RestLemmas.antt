-- The rows of some decks of a sound library show the part of it with these decks alone.
use Rattle.upd_row_store.proofs.Common.{◌≡◌, ℕ, zero, suc, ◌<◌, ◌≤◌, ◌==◌, Bool, true, false, not, ◌&&◌, ◌||◌, cond, List, [], ◌∷◌, ◌++◌, length, map, Some}
use Rattle.upd_row_store.proofs.Common.{refl, ap, sym, ◌∙◌, subst, arith, nat_tests, filter-append, same_Some, count_by, filter, flat_map, list_any, sum_by}
use Rattle.upd_row_store.proofs.Common.{AllByRecursion, CardRef, all_back, all_by_index, all_front, at_contained, refs_apart, Ident, is_among, CardView}
use Rattle.upd_row_store.proofs.Common.{DeckView, LibraryView, all_decks, ref_of, part_of, AreApart, BeginsWithItsOwn, IsOfHeld, IsSound, all_cards}
use Rattle.upd_row_store.proofs.Common.{count_cons, same_filter, same_of, same_trans, any_append, other_ref, same_ref_is, same_ref_own, CardRow, EntryRow}
use Rattle.upd_row_store.proofs.Common.{IsSame, Rows, Shows, TargetRow, card_rows, entry_rows, rows_of, same_ref, target_rows, LibraryRows, AreRowsOf}
use Rattle.upd_row_store.proofs.Common.{part_rows}
use Rattle.std.specs.Prelude.{◌+◌, ◌-◌, IsTrue, slice_get}
use Rattle.std.proofs.lemmas.Grind.{flat_map-append}
use Rattle.std.proofs.lemmas.List.{map-append}
use Rattle.upd_core.proofs.ApartLemmas.{all_mapped}
use Rattle.upd_core.proofs.FoundLemmas.{place_at}
use Rattle.upd_core.specs.declared.library.Place.{Place}
use Rattle.upd_core.specs.declared.library.Rest.{Rest}
use Rattle.upd_core.specs.Library.{place_of}
use Rattle.upd_core.specs.Sound.{BeginsOn, HasNoTargets, IsWhole, is_held_deck, key_of}
use Rattle.upd_records.proofs.CountLemmas.{count_map}
use Rattle.upd_row_store.specs.PartRows.{is_loaded, is_of, AreOfDistinctCards}
use Rattle.upd_row_store.proofs.HolderLemmas.{ages_above, ages_rising, and_false, any_same}
use Rattle.upd_row_store.proofs.PartLemmas.{cards_in_rows, entries_in_rows, rest_counted, same_length}
use Rattle.upd_row_store.proofs.PlaceLemmas.{stand_in}
use Rattle.upd_row_store.proofs.RowLemmas.{of_entries}
use Rattle.upd_row_store.proofs.SortLemmas.{all_joined, all_kept, weaker}

-- ---- elements that are kept

pub any_filter : {A : Type 0} (keep test : A → Bool) (xs : List A) → list_any test (filter keep xs) ≡ list_any (λ x. keep x && test x) xs
any_filter keep test [] = refl
any_filter {A} keep test (x ∷ xs) = go (keep x) (any_filter keep test xs)
  where
    go : (b : Bool) → list_any test (filter keep xs) ≡ list_any (λ y. keep y && test y) xs
        → list_any test (cond b (x ∷ filter keep xs) (filter keep xs)) ≡ ((b && test x) || list_any (λ y. keep y && test y) xs)
    go true later = ap (λ b. test x || b) later
    go false later = later

filter_by : {A : Type 0} (test : A → Bool) (b : Bool) (xs : List A) → AllByRecursion (λ x. test x ≡ b) xs → filter test xs ≡ cond b xs []
filter_by test true [] all = refl
filter_by test false [] all = refl
filter_by test true (x ∷ xs) all =
    ap (λ t. cond t (x ∷ filter test xs) (filter test xs)) all.0 ∙ ap (λ ys. x ∷ ys) (filter_by test true xs all.1)
filter_by test false (x ∷ xs) all = ap (λ t. cond t (x ∷ filter test xs) (filter test xs)) all.0 ∙ filter_by test false xs all.1

-- where a test says the same of all that an element brings, the elements are kept or not
filter_flat : {A B : Type 0} (test : B → Bool) (keep : A → Bool) (of : A → List B) (xs : List A)
    → AllByRecursion (λ x. AllByRecursion (λ y. test y ≡ keep x) (of x)) xs → filter test (flat_map of xs) ≡ flat_map of (filter keep xs)
filter_flat test keep of [] all = refl
filter_flat test keep of (x ∷ xs) all =
    filter-append test (of x) (flat_map of xs) ∙ (λ i. filter_by test (keep x) (of x) all.0 i ++ filter_flat test keep of xs all.1 i) ∙ go (keep x)
  where
    go : (b : Bool) → cond b (of x) [] ++ flat_map of (filter keep xs) ≡ flat_map of (cond b (x ∷ filter keep xs) (filter keep xs))
    go true = refl
    go false = refl

filter_alike : {A : Type 0} (f g : A → Bool) (xs : List A) → AllByRecursion (λ x. f x ≡ g x) xs → filter f xs ≡ filter g xs
filter_alike f g [] all = refl
filter_alike f g (x ∷ xs) all = λ i. cond (all.0 i) (x ∷ filter_alike f g xs all.1 i) (filter_alike f g xs all.1 i)

flat_flat : {A B C : Type 0} (f : B → List C) (g : A → List B) (xs : List A) → flat_map f (flat_map g xs) ≡ flat_map (λ x. flat_map f (g x)) xs
flat_flat f g [] = refl
flat_flat f g (x ∷ xs) = flat_map-append f (g x) (flat_map g xs) ∙ ap (λ ys. flat_map f (g x) ++ ys) (flat_flat f g xs)

all_flat : {A B : Type 0} (P : B → Type 0) (f : A → List B) (xs : List A) → AllByRecursion (λ x. AllByRecursion P (f x)) xs → AllByRecursion P (flat_map f xs)
all_flat P f [] all = tt
all_flat P f (x ∷ xs) all = all_joined P (f x) (flat_map f xs) all.0 (all_flat P f xs all.1)

flat_kept : {A B : Type 0} (P : B → Type 0) (f : A → List B) (keep : A → Bool) (xs : List A) → AllByRecursion P (flat_map f xs)
    → AllByRecursion P (flat_map f (filter keep xs))
flat_kept P f keep [] all = tt
flat_kept P f keep (x ∷ xs) all = go (keep x) (flat_kept P f keep xs (all_back P (f x) (flat_map f xs) all))
  where
    go : (b : Bool) → AllByRecursion P (flat_map f (filter keep xs)) → AllByRecursion P (flat_map f (cond b (x ∷ filter keep xs) (filter keep xs)))
    go true later = all_joined P (f x) (flat_map f (filter keep xs)) (all_front P (f x) (flat_map f xs) all) later
    go false later = later

any_flat : {A B : Type 0} (test : B → Bool) (f : A → List B) (xs : List A) (k : ℕ) (x : A) → slice_get xs k ≡ Some x → list_any test (f x) ≡ true
    → list_any test (flat_map f xs) ≡ true
any_flat test f [] k x e hit = absurd (cc)
any_flat test f (y ∷ xs) zero x e hit =
    any_append test (f y) (flat_map f xs) ∙ ap (λ b. b || list_any test (flat_map f xs)) (ap (λ z. list_any test (f z)) (same_Some y x e) ∙ hit)
any_flat test f (y ∷ xs) (suc k) x e hit =
    any_append test (f y) (flat_map f xs) ∙ ap (λ b. list_any test (f y) || b) (any_flat test f xs k x e hit) ∙ or_true (list_any test (f y))
  where
    or_true : (b : Bool) → (b || true) ≡ true
    or_true true = refl
    or_true false = refl

-- two lists of which the second becomes shorter
pub apart_fewer : {K : Type 0} (xs ys zs : List K) → ((P : K → Type 0) → AllByRecursion P ys → AllByRecursion P zs) → AreApart zs → AreApart (xs ++ ys)
    → AreApart (xs ++ zs)
apart_fewer [] ys zs fewer apart whole = apart
apart_fewer (x ∷ xs) ys zs fewer apart whole = (
  all_joined (λ y. x ≡ y → ⊥) xs zs (all_front (λ y. x ≡ y → ⊥) xs ys whole.0) (fewer (λ y. x ≡ y → ⊥) (all_back (λ y. x ≡ y → ⊥) xs ys whole.0)),
  apart_fewer xs ys zs fewer apart whole.1,
)

apart_behind : {K : Type 0} (xs ys : List K) → AreApart (xs ++ ys) → AreApart ys
apart_behind [] ys whole = whole
apart_behind (x ∷ xs) ys whole = apart_behind xs ys whole.1

apart_kept : {A K : Type 0} (f : A → List K) (keep : A → Bool) (xs : List A) → AreApart (flat_map f xs) → AreApart (flat_map f (filter keep xs))
apart_kept f keep [] whole = tt
apart_kept f keep (x ∷ xs) whole = go (keep x) (apart_kept f keep xs (apart_behind (f x) (flat_map f xs) whole))
  where
    go : (b : Bool) → AreApart (flat_map f (filter keep xs)) → AreApart (flat_map f (cond b (x ∷ filter keep xs) (filter keep xs)))
    go true later = apart_fewer (f x) (flat_map f xs) (flat_map f (filter keep xs)) (λ P all. flat_kept P f keep xs all) later whole
    go false later = later

map_flat : {A B K : Type 0} (g : B → K) (f : A → List B) (xs : List A) → map g (flat_map f xs) ≡ flat_map (λ x. map g (f x)) xs
map_flat g f [] = refl
map_flat g f (x ∷ xs) = map-append g (f x) (flat_map f xs) ∙ ap (λ ys. map g (f x) ++ ys) (map_flat g f xs)

-- a reference is at most once among references that differ
none_of_others : (card : CardRef) (refs : List CardRef) → AllByRecursion (λ r. card ≡ r → ⊥) refs → count_by (same_ref card) refs ≡ 0
none_of_others card [] all = refl
none_of_others card (r ∷ refs) all =
    let later = none_of_others card refs all.1 in
    count_cons (same_ref card) r refs ∙ ap (λ b. cond b 1 0 + count_by (same_ref card) refs) (other_ref card r all.0) ∙ omega (arith, later)

count_once : (card : CardRef) (refs : List CardRef) → AreApart refs → count_by (same_ref card) refs ≤ 1
count_once card [] apart = omega arith
count_once card (r ∷ refs) apart = go (same_ref card r) refl (count_once card refs apart.1)
  where
    go : (b : Bool) → same_ref card r ≡ b → count_by (same_ref card) refs ≤ 1 → count_by (same_ref card) (r ∷ refs) ≤ 1
    go true hit later =
        let none = none_of_others card refs (subst (λ x. AllByRecursion (λ y. x ≡ y → ⊥) refs) (sym (same_ref_is card r hit)) apart.0) in
        let one = count_cons (same_ref card) r refs ∙ ap (λ b. cond b 1 0 + count_by (same_ref card) refs) hit in
        omega (arith, none, one)
    go false miss later =
        let one = count_cons (same_ref card) r refs ∙ ap (λ b. cond b 1 0 + count_by (same_ref card) refs) miss in
        omega (arith, later, one)

-- ---- the rows of cards

module _ (idents : List Ident) where
  rows_all : (P : CardRow → Type 0) (e p : ℕ) (cs : List CardView)
      → AllByRecursion (λ c. (q : ℕ) → P (record { card = ref_of idents c; deck = e; pos = q; body = c.text })) cs → AllByRecursion P (card_rows idents e p cs)
  rows_all P e p [] all = tt
  rows_all P e p (c ∷ cs) all = (all.0 p, rows_all P e (p + 1) cs all.1)

  any_row : (test : CardRow → Bool) (e p : ℕ) (cs : List CardView) (i : ℕ) (c : CardView) → slice_get cs i ≡ Some c
      → ((q : ℕ) → test (record { card = ref_of idents c; deck = e; pos = q; body = c.text }) ≡ true) → list_any test (card_rows idents e p cs) ≡ true
  any_row test e p [] i c at hit = absurd (cc)
  any_row test e p (d ∷ cs) zero c at hit =
      ap (λ b. b || list_any test (card_rows idents e (p + 1) cs))
      (ap (λ x. test (record { card = ref_of idents x; deck = e; pos = p; body = x.text })) (same_Some d c at) ∙ hit p)
  any_row test e p (d ∷ cs) (suc i) c at hit =
      ap (λ b. test (record { card = ref_of idents d; deck = e; pos = p; body = d.text }) || b) (any_row test e (p + 1) cs i c at hit)
      ∙ or_true (test (record { card = ref_of idents d; deck = e; pos = p; body = d.text }))
    where
      or_true : (b : Bool) → (b || true) ≡ true
      or_true true = refl
      or_true false = refl

-- ---- a part

module _ (ages : List ℕ) (l : LibraryView) (sound : IsSound l) where
  abbrev keep : DeckView → Bool
  keep d = not (not (is_among ages d.ident))

  -- the library with these decks alone, and with a rest, so that it isn't whole
  abbrev pub parted : LibraryView
  parted = record l { decks = filter keep l.decks; rest = record { cards = 1; entries = 0 } }

  cards_kept : (P : CardView → Type 0) → AllByRecursion P (all_cards l) → AllByRecursion P (all_cards parted)
  cards_kept P all =
      all_joined P l.yanks (flat_map (λ d. d.cards) (filter keep l.decks)) (all_front P l.yanks (flat_map (λ d. d.cards) l.decks) all)
      (flat_kept P (λ d. d.cards) keep l.decks (all_back P l.yanks (flat_map (λ d. d.cards) l.decks) all))

  keys_kept : AreApart (map key_of (all_cards parted))
  keys_kept =
      let whole : AreApart (flat_map (λ (d : DeckView). map key_of d.cards) (all_decks l)) =
      subst AreApart (map_flat key_of (λ (d : DeckView). d.cards) (all_decks l)) sound.keys in
      let of : DeckView → List (ℕ × ℕ) = λ d. map key_of d.cards in
      subst AreApart (sym (map_flat key_of (λ (d : DeckView). d.cards) (all_decks parted)))
      (apart_fewer (map key_of l.yanks) (flat_map of l.decks) (flat_map of (filter keep l.decks)) (λ P all. flat_kept P of keep l.decks all)
      (apart_kept of keep l.decks (apart_behind (map key_of l.yanks) (flat_map of l.decks) whole)) whole)

  pub part_sound : IsSound parted
  part_sound = record {
    ages = sound.ages;
    names = sound.names;
    reserved = sound.reserved;
    decks = all_kept (λ d. IsTrue (is_held_deck l.idents d.ident)) keep l.decks sound.decks;
    deck_ages = (ages_above 0 keep l.decks sound.deck_ages.0, ages_rising keep l.decks sound.deck_ages.1);
    firsts = all_kept BeginsWithItsOwn keep l.decks sound.firsts;
    standing = λ whole. absurd (some whole);
    cards = cards_kept (IsOfHeld l.idents) sound.cards;
    histories = cards_kept BeginsOn sound.histories;
    keys = keys_kept;
    yanks = sound.yanks;
    targets = sound.targets;
    plain = all_kept HasNoTargets keep l.decks sound.plain;
  }
    where
      some : IsWhole parted → ⊥
      some whole = let one = ap {A = Rest} {B = ℕ} (λ r. r.cards) whole in absurd (omega (arith, one))

  -- the decks that are read are those of the part
  decks_kept : filter (λ d. is_loaded ages d.ident) (all_decks l) ≡ all_decks parted
  decks_kept = ap (λ ds. record { ident = 0; cards = l.yanks } ∷ ds) (filter_alike (λ d. is_loaded ages d.ident) keep l.decks
      (weaker l.decks (λ d some. same d (is_among ages d.ident) some) (all_mapped (λ m. 0 < m) (λ d. d.ident) l.decks sound.deck_ages.0)))
    where
      same : (d : DeckView) (b : Bool) → 0 < d.ident → ((d.ident == 0) || b) ≡ not (not b)
      same d true some = let other : (d.ident == 0) ≡ false = grind (arith, nat_tests) in rw other refl
      same d false some = let other : (d.ident == 0) ≡ false = grind (arith, nat_tests) in rw other refl

  abbrev rows_in : DeckView → List CardRow
  rows_in d = card_rows l.idents d.ident 0 d.cards

  card_rows_kept : filter (λ r. is_loaded ages r.deck) (rows_of l).cards ≡ (rows_of parted).cards
  card_rows_kept =
      filter_flat (λ r. is_loaded ages r.deck) (λ d. is_loaded ages d.ident) rows_in (all_decks l)
      (all_by_index (all_decks l) (λ k d at. weaker (rows_in d) (λ r h. ap (is_loaded ages) h.0) (stand_in l.idents d.ident 0 0 d.cards (omega arith))))
      ∙ ap (flat_map rows_in) decks_kept

  -- ---- a card's row is among those of the part where its deck is

  one_deck : (j k : ℕ) (b d : DeckView) (m i : ℕ) (a c : CardView) → slice_get (all_decks l) j ≡ Some b → slice_get (all_decks l) k ≡ Some d
      → slice_get b.cards m ≡ Some a → slice_get d.cards i ≡ Some c → same_ref (ref_of l.idents a) (ref_of l.idents c) ≡ true → b.ident ≡ d.ident
  one_deck j k b d m i a c at_b at_d at_a at_c same =
      let one = place_at l b m a sound (at_contained (all_decks l) j b at_b) at_a in
      let two = place_at l d i c sound (at_contained (all_decks l) k d at_d) at_c in
      let places = sym one ∙ ap (λ r. place_of r l) (same_ref_is (ref_of l.idents a) (ref_of l.idents c) same) ∙ two in
      ap (λ (p : Place). p.deck) (same_Some (record { deck = b.ident; index = m }) (record { deck = d.ident; index = i }) places)

  any_own : (e : ℕ) (ref : CardRef) (rows : List CardRow) → AllByRecursion (λ r. same_ref r.card ref ≡ true → r.deck ≡ e) rows
      → list_any (λ r. is_loaded ages r.deck && same_ref r.card ref) rows ≡ (is_loaded ages e && list_any (λ r. same_ref r.card ref) rows)
  any_own e ref [] all = and_false (is_loaded ages e)
  any_own e ref (r ∷ rows) all = go (same_ref r.card ref) all.0 (any_own e ref rows all.1)
    where
      either : (a b c : Bool) → c ≡ (a && b) → ((a && true) || c) ≡ (a && (true || b))
      either true b c later = refl
      either false b c later = later

      neither : (a b c d : Bool) → c ≡ (d && b) → ((a && false) || c) ≡ (d && (false || b))
      neither true b c d later = later
      neither false b c d later = later

      go : (s : Bool) → (s ≡ true → r.deck ≡ e)
          → list_any (λ x. is_loaded ages x.deck && same_ref x.card ref) rows ≡ (is_loaded ages e && list_any (λ x. same_ref x.card ref) rows)
          → ((is_loaded ages r.deck && s) || list_any (λ x. is_loaded ages x.deck && same_ref x.card ref) rows)
          ≡ (is_loaded ages e && (s || list_any (λ x. same_ref x.card ref) rows))
      go true here later =
          ap (λ d. (is_loaded ages d && true) || list_any (λ x. is_loaded ages x.deck && same_ref x.card ref) rows) (here refl)
          ∙ either (is_loaded ages e) _ _ later
      go false here later = neither (is_loaded ages r.deck) _ _ (is_loaded ages e) later

  row_there : (k : ℕ) (d : DeckView) (i : ℕ) (c : CardView) → slice_get (all_decks l) k ≡ Some d → slice_get d.cards i ≡ Some c
      → list_any (λ r. is_loaded ages r.deck && same_ref r.card (ref_of l.idents c)) (rows_of l).cards ≡ is_loaded ages d.ident
  row_there k d i c at_d at_c =
      let ref = ref_of l.idents c in
      any_own d.ident ref (rows_of l).cards (all_flat _ rows_in (all_decks l) (all_by_index (all_decks l)
      (λ j b at_b. rows_all l.idents (λ r. same_ref r.card ref ≡ true → r.deck ≡ d.ident) b.ident 0 b.cards (all_by_index b.cards
      (λ m a at_a q same. one_deck j k b d m i a c at_b at_d at_a at_c same)))))
      ∙ ap (λ x. is_loaded ages d.ident && x) (any_flat (λ r. same_ref r.card ref) rows_in (all_decks l) k d at_d
      (any_row l.idents (λ r. same_ref r.card ref) d.ident 0 d.cards i c at_c (λ q. same_ref_own ref)))
      ∙ and_true (is_loaded ages d.ident)
    where
      and_true : (b : Bool) → (b && true) ≡ b
      and_true true = refl
      and_true false = refl

  -- ---- the part's entries and targets

  abbrev entries_in : CardView → List EntryRow
  entries_in c = entry_rows (ref_of l.idents c) 0 c.history

  entry_rows_kept : (tables : Rows) → IsSame tables.cards (rows_of l).cards
      → filter (is_of (filter (λ r. is_loaded ages r.deck) tables.cards)) (rows_of l).entries ≡ (rows_of parted).entries
  entry_rows_kept tables same =
      ap (filter test) (flat_flat entries_in (λ d. d.cards) (all_decks l))
      ∙ filter_flat test (λ d. is_loaded ages d.ident) (λ d. flat_map entries_in d.cards) (all_decks l)
      (all_by_index (all_decks l) (λ k d at_d. all_flat _ entries_in d.cards (all_by_index d.cards (λ i c at_c.
      weaker (entries_in c) (λ e of. row_changes e ∙ ap (λ card. list_any (λ r. is_loaded ages r.deck && same_ref r.card card) (rows_of l).cards) of
      ∙ row_there k d i c at_d at_c) (of_entries (ref_of l.idents c) 0 c.history)))))
      ∙ ap (flat_map (λ d. flat_map entries_in d.cards)) decks_kept
      ∙ sym (flat_flat entries_in (λ d. d.cards) (all_decks parted))
    where
      test : EntryRow → Bool
      test = is_of (filter (λ r. is_loaded ages r.deck) tables.cards)

      row_changes : (e : EntryRow) → is_of (filter (λ r. is_loaded ages r.deck) tables.cards) e
          ≡ list_any (λ r. is_loaded ages r.deck && same_ref r.card e.card) (rows_of l).cards
      row_changes e =
          any_filter (λ r. is_loaded ages r.deck) (λ r. same_ref r.card e.card) tables.cards
          ∙ any_same (λ r. is_loaded ages r.deck && same_ref r.card e.card) same

  abbrev targets_in : CardView → List TargetRow
  targets_in c = target_rows (ref_of l.idents c) 0 c.targets

  no_targets : (ds : List DeckView) → AllByRecursion HasNoTargets ds → flat_map targets_in (flat_map (λ d. d.cards) ds) ≡ []
  no_targets [] all = refl
  no_targets (d ∷ ds) all =
      flat_map-append targets_in d.cards (flat_map (λ e. e.cards) ds) ∙ (λ i. none d.cards all.0 i ++ no_targets ds all.1 i)
    where
      none : (cs : List CardView) → AllByRecursion (λ c. c.targets ≡ []) cs → flat_map targets_in cs ≡ []
      none [] all = refl
      none (c ∷ cs) all = λ i. target_rows (ref_of l.idents c) 0 (all.0 i) ++ none cs all.1 i

  target_rows_kept : (rows_of l).targets ≡ (rows_of parted).targets
  target_rows_kept =
      flat_map-append targets_in l.yanks (flat_map (λ d. d.cards) l.decks)
      ∙ ap (λ ts. flat_map targets_in l.yanks ++ ts) (no_targets l.decks sound.plain ∙ sym (no_targets (filter keep l.decks) part_sound.plain))
      ∙ sym (flat_map-append targets_in l.yanks (flat_map (λ d. d.cards) (filter keep l.decks)))

  pub part_shown : (tables : Rows) → Shows tables l → Shows (part_rows ages tables) parted
  part_shown tables shows = record {
    idents = shows.idents;
    cards = same_trans (same_filter (λ r. is_loaded ages r.deck) shows.cards) (same_of _ _ card_rows_kept);
    entries = same_trans (same_filter (is_of (filter (λ r. is_loaded ages r.deck) tables.cards)) shows.entries)
        (same_of _ _ (entry_rows_kept tables shows.cards));
    targets = same_trans shows.targets (same_of _ _ target_rows_kept);
  }

  -- what is left of all rows is what the other decks have
  pub rest_made : (tables : Rows) (rows : LibraryRows) → IsWhole l → Shows tables l → AreRowsOf (part_rows ages tables) rows
      → (length tables.cards - length rows.cards.items ≡ (part_of ages l).rest.cards)
      × (length tables.entries - length rows.entries.items ≡ (part_of ages l).rest.entries)
  rest_made tables rows whole shows are =
      let part = part_shown tables shows in
      let yanks : DeckView = record { ident = 0; cards = l.yanks } in
      let no_cards = ap {A = Rest} {B = ℕ} (λ r. r.cards) whole in
      let no_entries = ap {A = Rest} {B = ℕ} (λ r. r.entries) whole in
      let all_cards = same_length shows.cards ∙ cards_in_rows l in
      let some_cards = same_length (same_trans are.cards part.cards) ∙ cards_in_rows parted in
      let all_entries = same_length shows.entries ∙ entries_in_rows l in
      let some_entries = same_length (same_trans are.entries part.entries) ∙ entries_in_rows parted in
      let left_cards = rest_counted (λ d. length d.cards) ages yanks l.decks in
      let left_entries = rest_counted (λ d. sum_by (λ c. length c.history) d.cards) ages yanks l.decks in
      (omega (arith, no_cards, all_cards, some_cards, left_cards), omega (arith, no_entries, all_entries, some_entries, left_entries))

  -- ---- no two rows are of one card

  refs_in_rows : (e p : ℕ) (cs : List CardView) → map (λ r. r.card) (card_rows l.idents e p cs) ≡ map (ref_of l.idents) cs
  refs_in_rows e p [] = refl
  refs_in_rows e p (c ∷ cs) = ap (λ refs. ref_of l.idents c ∷ refs) (refs_in_rows e (p + 1) cs)

  pub rows_apart : (tables : Rows) → Shows tables l → AreOfDistinctCards tables.cards
  rows_apart tables shows card =
      let refs : map (λ (r : CardRow). r.card) (rows_of l).cards ≡ map (ref_of l.idents) (all_cards l) =
      map_flat (λ (r : CardRow). r.card) rows_in (all_decks l) ∙ (λ i. flat_map (λ d. refs_in_rows d.ident 0 d.cards i) (all_decks l))
      ∙ sym (map_flat (ref_of l.idents) (λ d. d.cards) (all_decks l)) in
      let once = count_once card (map (λ (r : CardRow). r.card) (rows_of l).cards) (subst AreApart (sym refs) (refs_apart l sound)) in
      omega (arith, once, shows.cards.passes (λ r. same_ref card r.card), count_map (same_ref card) (λ (r : CardRow). r.card) (rows_of l).cards)
