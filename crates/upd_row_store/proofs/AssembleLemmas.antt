-- The library of rows that show a sound library, in order, is that library.
use Rattle.upd_row_store.proofs.Common.{◌≡◌, ℕ, ◌+◌, Bool, true, false, not, ◌&&◌, cond, List, [], ◌∷◌, ◌++◌, map, Option, Some, None, append-nil, refl, ap}
use Rattle.upd_row_store.proofs.Common.{sym, ◌∙◌, subst, arith, slice_cmp, nat_cmp, option_map, option_map_or, Decides-eqb, append_assoc, same_Some}
use Rattle.upd_row_store.proofs.Common.{bytes_eq-Decides, filter, flat_map, AllByRecursion, bytes_eq, all_back, all_front, held_found, refs_apart, Entry}
use Rattle.upd_row_store.proofs.Common.{Ident, CardView, DeckView, LibraryView, all_decks, held_named, name_of, ref_of, AreRising, BeginsWithItsOwn, IsSound}
use Rattle.upd_row_store.proofs.Common.{all_cards, same_filter, same_of, same_trans, same_ref_is, same_ref_own, CardRow, EntryRow, IsSame, TargetRow}
use Rattle.upd_row_store.proofs.Common.{card_rows, entry_rows, rows_of, same_ref, target_rows, AreByAge, AreByPlace, age_named, decks_from, decks_in}
use Rattle.upd_row_store.proofs.Common.{library_of}
use Rattle.std.specs.Prelude.{◌==◌}
use Rattle.std.specs.BTreeMap.{is_at}
use Rattle.std.proofs.lemmas.Map.Text.{is_eq-slice_cmp}
use Rattle.upd_text.specs.Units.{Bytes}
use Rattle.upd_core.proofs.CountedLemmas.{same_target, target_same}
use Rattle.upd_core.specs.declared.ident.Kind.{Kind}
use Rattle.upd_core.specs.declared.ident.Kind.TheVariants.{Set, Deck, Common}
use Rattle.upd_core.specs.Entries.{same_entry}
use Rattle.upd_core.specs.Library.{empty}
use Rattle.upd_core.specs.Targets.{is_same}
use Rattle.upd_records.proofs.EqualLemmas.{same_entry_is}
use Rattle.upd_row_store.specs.Assembling.{AreEntriesByCard, AreTargetsByCard, card_of_row, entries_of, targets_of}
use Rattle.upd_row_store.proofs.PlaceLemmas.{age_order, ages_rise, in_front, older, place_order, places_rise}
use Rattle.upd_row_store.proofs.RowLemmas.{entries_again, entries_rise, of_entries, of_targets, own_rows, row_below, row_order, targets_again, targets_rise}
use Rattle.upd_row_store.proofs.SortLemmas.{all_three, in_order, order_kept, same_list, weaker}

-- ---- when two rows are the same

and_parts : (a b : Bool) → (a && b) ≡ true → (a ≡ true) × (b ≡ true)
and_parts true b e = (refl, e)
and_parts false b e = absurd (cc)

kind_number : Kind → ℕ
kind_number Set = 0
kind_number Deck = 1
kind_number Common = 2

one_kind : (a b : Kind) → kind_number a ≡ kind_number b → a ≡ b
unfolding kind_number
one_kind Set Set e = refl
one_kind Set Deck e = absurd (omega arith)
one_kind Set Common e = absurd (omega arith)
one_kind Deck Set e = absurd (omega arith)
one_kind Deck Deck e = refl
one_kind Deck Common e = absurd (omega arith)
one_kind Common Set e = absurd (omega arith)
one_kind Common Deck e = absurd (omega arith)
one_kind Common Common e = refl

same_bool : Bool → Bool → Bool
same_bool true b = b
same_bool false b = not b

one_bool : (a b : Bool) → same_bool a b ≡ true → a ≡ b
unfolding same_bool
one_bool true true e = refl
one_bool true false e = absurd (cc)
one_bool false true e = absurd (cc)
one_bool false false e = refl

bool_own : (a : Bool) → same_bool a a ≡ true
unfolding same_bool
bool_own true = refl
bool_own false = refl

abbrev same_ident : Ident → Ident → Bool
same_ident a b =
    bytes_eq a.name b.name && ((a.age == b.age) && ((kind_number a.kind == kind_number b.kind) && (same_bool a.noprop b.noprop && same_bool a.held b.held)))

one_ident : (a b : Ident) → same_ident a b ≡ true → a ≡ b
one_ident a b e =
    let p = and_parts _ _ e in
    let q = and_parts _ _ p.1 in
    let r = and_parts _ _ q.1 in
    let s = and_parts _ _ r.1 in
    let name = (bytes_eq-Decides a.name b.name).0 p.0 in
    let age = (Decides-eqb a.age b.age).0 q.0 in
    let kind = one_kind a.kind b.kind ((Decides-eqb (kind_number a.kind) (kind_number b.kind)).0 r.0) in
    let noprop = one_bool a.noprop b.noprop s.0 in
    let held = one_bool a.held b.held s.1 in
    λ i. record { name = name i; age = age i; kind = kind i; noprop = noprop i; held = held i }

both : (a b : Bool) → a ≡ true → b ≡ true → (a && b) ≡ true
both true b e f = f
both false b e f = absurd (cc)

ident_own : (a : Ident) → same_ident a a ≡ true
ident_own a =
    both _ _ ((bytes_eq-Decides a.name a.name).1 refl) (both _ _ ((Decides-eqb a.age a.age).1 refl)
    (both _ _ ((Decides-eqb (kind_number a.kind) (kind_number a.kind)).1 refl) (both _ _ (bool_own a.noprop) (bool_own a.held))))

abbrev pub same_card_row : CardRow → CardRow → Bool
same_card_row a b = same_ref a.card b.card && ((a.deck == b.deck) && ((a.pos == b.pos) && bytes_eq a.body b.body))

pub one_card_row : (a b : CardRow) → same_card_row a b ≡ true → a ≡ b
one_card_row a b e =
    let p = and_parts _ _ e in
    let q = and_parts _ _ p.1 in
    let r = and_parts _ _ q.1 in
    let card = same_ref_is a.card b.card p.0 in
    let deck = (Decides-eqb a.deck b.deck).0 q.0 in
    let pos = (Decides-eqb a.pos b.pos).0 r.0 in
    let body = (bytes_eq-Decides a.body b.body).0 r.1 in
    λ i. record { card = card i; deck = deck i; pos = pos i; body = body i }

pub card_row_own : (a : CardRow) → same_card_row a a ≡ true
card_row_own a =
    both _ _ (same_ref_own a.card) (both _ _ ((Decides-eqb a.deck a.deck).1 refl)
    (both _ _ ((Decides-eqb a.pos a.pos).1 refl) ((bytes_eq-Decides a.body a.body).1 refl)))

entry_own : (e : Entry) → same_entry e e ≡ true
entry_own e = go e.active
  where
    go : (b : Bool) → same_entry (record { ident = e.ident; active = b }) (record { ident = e.ident; active = b }) ≡ true
    go true = both _ _ ((Decides-eqb e.ident e.ident).1 refl) refl
    go false = both _ _ ((Decides-eqb e.ident e.ident).1 refl) refl

abbrev pub same_entry_row : EntryRow → EntryRow → Bool
same_entry_row a b = same_ref a.card b.card && ((a.ord == b.ord) && same_entry a.entry b.entry)

pub one_entry_row : (a b : EntryRow) → same_entry_row a b ≡ true → a ≡ b
one_entry_row a b e =
    let p = and_parts _ _ e in
    let q = and_parts _ _ p.1 in
    let card = same_ref_is a.card b.card p.0 in
    let ord = (Decides-eqb a.ord b.ord).0 q.0 in
    let entry = same_entry_is a.entry b.entry q.1 in
    λ i. record { card = card i; ord = ord i; entry = entry i }

pub entry_row_own : (a : EntryRow) → same_entry_row a a ≡ true
entry_row_own a = both _ _ (same_ref_own a.card) (both _ _ ((Decides-eqb a.ord a.ord).1 refl) (entry_own a.entry))

abbrev same_target_row : TargetRow → TargetRow → Bool
same_target_row a b = same_ref a.card b.card && ((a.ord == b.ord) && is_same a.target b.target)

one_target_row : (a b : TargetRow) → same_target_row a b ≡ true → a ≡ b
one_target_row a b e =
    let p = and_parts _ _ e in
    let q = and_parts _ _ p.1 in
    let card = same_ref_is a.card b.card p.0 in
    let ord = (Decides-eqb a.ord b.ord).0 q.0 in
    let target = same_target a.target b.target q.1 in
    λ i. record { card = card i; ord = ord i; target = target i }

target_row_own : (a : TargetRow) → same_target_row a a ≡ true
target_row_own a = both _ _ (same_ref_own a.card) (both _ _ ((Decides-eqb a.ord a.ord).1 refl) (target_same a.target))

-- ---- each card is the one of its row

pub age_found : (o : Option Ident) (z : ℕ) → option_map (λ i. i.age) o ≡ Some z → option_map_or (λ i. i.age) o 0 ≡ z
age_found (Some i) z e = same_Some i.age z e
age_found None z e = absurd (cc)

module _ (l : LibraryView) (sound : IsSound l) (entries : List EntryRow) (targets : List TargetRow) where
  histories_are : IsSame entries (rows_of l).entries → AreEntriesByCard entries
      → AllByRecursion (λ c. entries_of (ref_of l.idents c) entries ≡ c.history) (all_cards l)
  histories_are same up = weaker (all_cards l) (λ c own. is c own) (own_rows (λ r. r.card) (ref_of l.idents)
      (λ c. entry_rows (ref_of l.idents c) 0 c.history) (λ c. of_entries (ref_of l.idents c) 0 c.history) (all_cards l) (refs_apart l sound))
    where
      is : (c : CardView) → filter (λ r. same_ref (ref_of l.idents c) r.card) (rows_of l).entries ≡ entry_rows (ref_of l.idents c) 0 c.history
          → entries_of (ref_of l.idents c) entries ≡ c.history
      is c own =
          let ref = ref_of l.idents c in
          let order = order_kept _ (λ r. same_ref ref r.card) entries (in_order _ (row_order (λ r. r.card) (λ r. r.ord)) entries up) in
          let exact = same_list (row_below (λ r. r.card) (λ r. r.ord)) same_entry_row one_entry_row entry_row_own _ _ order
          (entries_rise ref 0 c.history) (same_trans (same_filter (λ r. same_ref ref r.card) same) (same_of _ _ own)) in
          ap (map (λ r. r.entry)) exact ∙ entries_again ref 0 c.history

  targets_are : IsSame targets (rows_of l).targets → AreTargetsByCard targets
      → AllByRecursion (λ c. targets_of (ref_of l.idents c) targets ≡ c.targets) (all_cards l)
  targets_are same up = weaker (all_cards l) (λ c own. is c own) (own_rows (λ r. r.card) (ref_of l.idents)
      (λ c. target_rows (ref_of l.idents c) 0 c.targets) (λ c. of_targets (ref_of l.idents c) 0 c.targets) (all_cards l) (refs_apart l sound))
    where
      is : (c : CardView) → filter (λ r. same_ref (ref_of l.idents c) r.card) (rows_of l).targets ≡ target_rows (ref_of l.idents c) 0 c.targets
          → targets_of (ref_of l.idents c) targets ≡ c.targets
      is c own =
          let ref = ref_of l.idents c in
          let order = order_kept _ (λ r. same_ref ref r.card) targets (in_order _ (row_order (λ r. r.card) (λ r. r.ord)) targets up) in
          let exact = same_list (row_below (λ r. r.card) (λ r. r.ord)) same_target_row one_target_row target_row_own _ _ order
          (targets_rise ref 0 c.targets) (same_trans (same_filter (λ r. same_ref ref r.card) same) (same_of _ _ own)) in
          ap (map (λ r. r.target)) exact ∙ targets_again ref 0 c.targets

  abbrev IsItsRow : CardView → Type 0
  IsItsRow c = (d p : ℕ) → card_of_row l.idents entries targets (record { card = ref_of l.idents c; deck = d; pos = p; body = c.text }) ≡ c

  cards_are : IsSame entries (rows_of l).entries → AreEntriesByCard entries → IsSame targets (rows_of l).targets → AreTargetsByCard targets
      → AllByRecursion IsItsRow (all_cards l)
  cards_are same_entries entries_up same_targets targets_up =
      all_three (all_cards l) (λ c held history targets d p. is c (age_found _ _ (held_found l c.ident sound held.0)) history targets d p) sound.cards
      (histories_are same_entries entries_up) (targets_are same_targets targets_up)
    where
      is : (c : CardView) → age_named l.idents (name_of l.idents c.ident) ≡ c.ident → entries_of (ref_of l.idents c) entries ≡ c.history
          → targets_of (ref_of l.idents c) targets ≡ c.targets → IsItsRow c
      is c age history targets d p = λ i. record { ident = age i; number = c.number; text = c.text; history = history i; targets = targets i }

  -- ---- decks out of the rows of their cards

  put_cards : (d : DeckView) (p : ℕ) (cs : List CardView) (rows : List CardRow) → AllByRecursion IsItsRow cs
      → decks_from l.idents entries targets d (card_rows l.idents d.ident p cs ++ rows)
      ≡ decks_from l.idents entries targets (record d { cards = d.cards ++ cs }) rows
  put_cards d p [] rows all =
      ap (λ cs. decks_from l.idents entries targets (record { ident = d.ident; cards = cs }) rows) (sym (append-nil d.cards))
  put_cards d p (c ∷ cs) rows all =
      let rest = card_rows l.idents d.ident (p + 1) cs ++ rows in
      let grown : List CardView → List DeckView = λ cards. decks_from l.idents entries targets (record { ident = d.ident; cards = cards }) rest in
      let row : CardRow = record { card = ref_of l.idents c; deck = d.ident; pos = p; body = c.text } in
      let here = ap (λ b. cond b (grown (d.cards ++ card_of_row l.idents entries targets row ∷ []))
      (d ∷ decks_from l.idents entries targets (record { ident = d.ident; cards = card_of_row l.idents entries targets row ∷ [] }) rest))
      ((Decides-eqb d.ident d.ident).1 refl) in
      let card = ap (λ x. grown (d.cards ++ x ∷ [])) (all.0 d.ident p) in
      let later = put_cards (record d { cards = d.cards ++ c ∷ [] }) (p + 1) cs rows all.1 in
      here ∙ card ∙ later ∙ ap (λ zs. decks_from l.idents entries targets (record { ident = d.ident; cards = zs }) rows) (append_assoc d.cards (c ∷ []) cs)

  abbrev deck_rows : List DeckView → List CardRow
  deck_rows ds = flat_map (λ d. card_rows l.idents d.ident 0 d.cards) ds

  put_decks : (d : DeckView) (ds : List DeckView) → AreRising (map (λ e. e.ident) (d ∷ ds)) → AllByRecursion BeginsWithItsOwn ds
      → AllByRecursion IsItsRow (flat_map (λ e. e.cards) ds) → decks_from l.idents entries targets d (deck_rows ds) ≡ d ∷ ds
  put_decks d [] rising begins all = refl
  put_decks d (e ∷ ds) rising begins all =
      go e.cards refl (put_decks e ds rising.1 begins.1 (all_back IsItsRow e.cards (flat_map (λ f. f.cards) ds) all))
    where
      go : (cs : List CardView) → e.cards ≡ cs → decks_from l.idents entries targets e (deck_rows ds) ≡ e ∷ ds
          → decks_from l.idents entries targets d (deck_rows (e ∷ ds)) ≡ d ∷ e ∷ ds
      go [] none later = absurd (subst (λ cs. BeginsWithItsOwn (record { ident = e.ident; cards = cs })) none begins.0)
      go (c ∷ cs) some later =
          let rest = card_rows l.idents e.ident 1 cs ++ deck_rows ds in
          let row : CardRow = record { card = ref_of l.idents c; deck = e.ident; pos = 0; body = c.text } in
          let first = card_of_row l.idents entries targets row in
          let mine : AllByRecursion IsItsRow (c ∷ cs) = subst (AllByRecursion IsItsRow) some (all_front IsItsRow e.cards (flat_map (λ f. f.cards) ds) all) in
          let other : (e.ident == d.ident) ≡ false = differ (e.ident == d.ident) refl in
          ap (λ zs. decks_from l.idents entries targets d (card_rows l.idents e.ident 0 zs ++ deck_rows ds)) some
          ∙ ap (λ b. cond b (decks_from l.idents entries targets (record { ident = d.ident; cards = d.cards ++ first ∷ [] }) rest)
          (d ∷ decks_from l.idents entries targets (record { ident = e.ident; cards = first ∷ [] }) rest)) other
          ∙ ap (λ x. d ∷ decks_from l.idents entries targets (record { ident = e.ident; cards = x ∷ [] }) rest) (mine.0 e.ident 0)
          ∙ ap (λ xs. d ∷ xs) (put_cards (record { ident = e.ident; cards = c ∷ [] }) 1 cs (deck_rows ds) mine.1)
          ∙ ap (λ zs. d ∷ decks_from l.idents entries targets (record { ident = e.ident; cards = zs }) (deck_rows ds)) (sym some)
          ∙ ap (λ xs. d ∷ xs) later
        where
          differ : (b : Bool) → (e.ident == d.ident) ≡ b → b ≡ false
          differ true same = absurd (omega (arith, (Decides-eqb e.ident d.ident).0 same, rising.0.0))
          differ false same = refl

  decks_are : AllByRecursion IsItsRow (all_cards l) → decks_in l.idents entries targets (rows_of l).cards ≡ all_decks l
  decks_are all =
      put_cards (record { ident = 0; cards = [] }) 0 l.yanks (deck_rows l.decks) (all_front IsItsRow l.yanks (flat_map (λ d. d.cards) l.decks) all)
      ∙ put_decks (record { ident = 0; cards = l.yanks }) l.decks sound.deck_ages sound.firsts
      (all_back IsItsRow l.yanks (flat_map (λ d. d.cards) l.decks) all)

-- ---- the whole

pub idents_in_place : (l : LibraryView) (idents : List Ident) → IsSound l → IsSame idents (rows_of l).idents → AreByAge idents → idents ≡ l.idents
idents_in_place l idents sound same by_age =
    same_list older same_ident one_ident ident_own idents l.idents (in_order older age_order idents by_age) (ages_rise 1 l.idents sound.ages) same

pub cards_in_place : (l : LibraryView) (cards : List CardRow) → IsSound l → IsSame cards (rows_of l).cards → AreByPlace cards → cards ≡ (rows_of l).cards
cards_in_place l cards sound same by_place =
    same_list in_front same_card_row one_card_row card_row_own cards (rows_of l).cards (in_order in_front place_order cards by_place)
    (places_rise l.idents (all_decks l) sound.deck_ages) same

-- rows in order, as often as a sound library has them, make that library
pub made_again : (l : LibraryView) (idents : List Ident) (cards : List CardRow) (entries : List EntryRow) (targets : List TargetRow) → IsSound l
    → IsSame idents (rows_of l).idents → IsSame cards (rows_of l).cards → IsSame entries (rows_of l).entries → IsSame targets (rows_of l).targets
    → AreByAge idents → AreByPlace cards → AreEntriesByCard entries → AreTargetsByCard targets
    → library_of idents (decks_in idents entries targets cards) ≡ record l { rest = empty.rest }
made_again l idents cards entries targets sound same_idents same_cards same_entries same_targets by_age by_place by_card targets_by_card =
    let one = idents_in_place l idents sound same_idents by_age in
    let two = cards_in_place l cards sound same_cards by_place in
    (λ i. library_of (one i) (decks_in (one i) entries targets (two i)))
    ∙ ap (library_of l.idents) (decks_are l sound entries targets (cards_are l sound entries targets same_entries by_card same_targets targets_by_card))

-- ---- the ages of held idents

-- one more ident in front of those whose ages are listed
pub ages_more : (ident : Ident) (rest : List Ident) (name : Bytes) (old new : Option ℕ) → ident.held ≡ true
    → new ≡ cond (is_at (slice_cmp nat_cmp ident.name) name) (Some ident.age) old → old ≡ option_map (λ i. i.age) (held_named name rest)
    → new ≡ option_map (λ i. i.age) (held_named name (ident ∷ rest))
ages_more ident rest name old new held updated before =
    updated ∙ (λ i. cond (is_eq-slice_cmp ident.name name i) (Some ident.age) (before i)) ∙ go (bytes_eq ident.name name)
    ∙ ap (λ b. option_map (λ i. i.age) (cond (b && bytes_eq ident.name name) (Some ident) (held_named name rest))) (sym held)
  where
    go : (b : Bool) → cond b (Some ident.age) (option_map (λ i. i.age) (held_named name rest))
        ≡ option_map (λ i. i.age) (cond b (Some ident) (held_named name rest))
    go true = refl
    go false = refl
