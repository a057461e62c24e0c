-- The law of row changes: carried out on rows that show the library before, they leave rows that show the library after.
use Rattle.upd_diff.proofs.Common.{◌≡◌, ℕ, ◌+◌, Bool, true, false, cond, List, [], ◌∷◌, ◌++◌, map, refl, ap, sym, subst, ◌∙◌, filter, flat_map}
use Rattle.upd_diff.proofs.Common.{AllByRecursion, flat_map-append, CardRef, Ident, CardView, DeckView, LibraryView, all_decks, ref_of, AreApart, Continues}
use Rattle.upd_diff.proofs.Common.{IsSound, all_cards, rising_apart, CardRow, EntryRow, TargetRow, Rows, IsSame, Shows, card_rows, entry_rows, target_rows}
use Rattle.upd_diff.proofs.Common.{ChangeView, done_all, CardDiffView, DeckDiffView, Lead, IsKept, card_before, card_after, deck_before, deck_after}
use Rattle.upd_diff.proofs.Common.{has_cards, standing, gone_of, ident_changes, brought, card_changes, row_changes, same_of, same_trans, Nothing, on_idents}
use Rattle.upd_diff.proofs.Common.{on_cards, on_entries, on_targets, all_acts, acts_append, idle_acts, AllFit, cards_after, is_in, without}
use Rattle.std.proofs.lemmas.List.Folds.{flat_map-map}
use Rattle.upd_core.proofs.ApartLemmas.{all_front, all_back}
use Rattle.upd_core.proofs.FoundLemmas.{refs_apart}
use Rattle.upd_records.specs.Rows.{rows_of}
use Rattle.upd_records.proofs.CountLemmas.{same_woven}
use Rattle.upd_records.proofs.EffectLemmas.{Effect, acts_same, AreIdle, idents_after, entries_after, targets_after, acts_without}
use Rattle.upd_diff.proofs.AllLemmas.{all_joined, all_flat}
use Rattle.upd_diff.proofs.KindLemmas.{idents_all, gone_each, moves_each, brought_each}
use Rattle.upd_diff.proofs.FitLemmas.{Carry, FitsAny, any_fit, fit_append, fit_same, of_cards}
use Rattle.upd_diff.proofs.GoneLemmas.{Fits, keys_fit, key_of, card_goes, entries_go, targets_go, card_of, entry_of, target_of, cards_gone, entries_gone}
use Rattle.upd_diff.proofs.GoneLemmas.{targets_gone, staying, entries_are_of, targets_are_of, rows_left, cards_left}
use Rattle.upd_diff.proofs.MoveLemmas.{kept_to, all_from, all_to, all_moves, all_moves_do, ages_before}
use Rattle.upd_diff.proofs.ComeLemmas.{come_cards, come_entries, come_targets, all_cards_brought, all_entries_brought, all_targets_brought}
use Rattle.upd_diff.proofs.ComeLemmas.{entries_woven, targets_woven, cards_woven}
use Rattle.upd_diff.proofs.IdentLemmas.{directory_done, refs_stay}

-- ---- row changes, a table at a time

module _ (idents : List Ident) (ks : List DeckDiffView) where
  abbrev pub all_gone : List ChangeView
  all_gone = flat_map (λ k. flat_map (gone_of idents) k.card_diffs) ks

  abbrev pub all_brought : List ChangeView
  all_brought = flat_map (λ k. brought idents k.deck 0 k.card_diffs) ks

  -- the references of the cards that are flagged
  abbrev keys : (CardDiffView → Bool) → List CardRef
  keys goes = flat_map (λ k. flat_map (key_of idents goes) k.card_diffs) ks

  phases : {A : Type 0} (e : ChangeView → Effect A) (xs : List A)
      → all_acts e (card_changes idents ks) xs ≡ all_acts e all_brought (all_acts e (all_moves ks) (all_acts e all_gone xs))
  phases e xs = acts_append e all_gone (all_moves ks ++ all_brought) xs ∙ acts_append e (all_moves ks) all_brought (all_acts e all_gone xs)

  abbrev IsIdle : ChangeView → Type 0
  IsIdle c = on_idents c ≡ Nothing

  cards_idle : (xs : List Ident) → all_acts on_idents (card_changes idents ks) xs ≡ xs
  cards_idle xs =
      idle_acts on_idents (card_changes idents ks) xs
      (all_joined IsIdle all_gone (all_moves ks ++ all_brought) (gone_each IsIdle (λ card. refl) (λ card. refl) (λ card targets. refl) idents ks)
      (all_joined IsIdle (all_moves ks) all_brought (moves_each IsIdle (λ d from by. refl) ks)
      (brought_each IsIdle (λ card d p body. refl) (λ card n e. refl) (λ card n t. refl) idents ks)))

  cards_gone_of : (xs : List CardRow) → all_acts on_cards all_gone xs ≡ without card_of (keys card_goes) xs
  cards_gone_of =
      acts_without on_cards card_of (λ k. flat_map (gone_of idents) k.card_diffs) (λ k. flat_map (key_of idents card_goes) k.card_diffs)
      (λ k ys. acts_without on_cards card_of (gone_of idents) (key_of idents card_goes) (cards_gone idents) k.card_diffs ys) ks

  cards_acted : (xs : List CardRow) → all_acts on_cards (card_changes idents ks) xs
      ≡ all_acts on_cards (all_moves ks) (all_acts on_cards all_gone xs) ++ flat_map (λ k. come_cards idents k.deck 0 k.card_diffs) ks
  cards_acted xs = phases on_cards xs ∙ all_cards_brought idents ks (all_acts on_cards (all_moves ks) (all_acts on_cards all_gone xs))

  entries_acted : (xs : List EntryRow) → all_acts on_entries (card_changes idents ks) xs
      ≡ without entry_of (keys entries_go) xs ++ flat_map (λ k. flat_map (come_entries idents) k.card_diffs) ks
  entries_acted xs = phases on_entries xs ∙ all_entries_brought idents ks (all_acts on_entries (all_moves ks) (all_acts on_entries all_gone xs))
      ∙ ap (λ t. t ++ flat_map (λ k. flat_map (come_entries idents) k.card_diffs) ks)
      (idle_acts on_entries (all_moves ks) _ (moves_each (λ c. on_entries c ≡ Nothing) (λ d from by. refl) ks)
      ∙ acts_without on_entries entry_of (λ k. flat_map (gone_of idents) k.card_diffs) (λ k. flat_map (key_of idents entries_go) k.card_diffs)
      (λ k ys. acts_without on_entries entry_of (gone_of idents) (key_of idents entries_go) (entries_gone idents) k.card_diffs ys) ks xs)

  targets_acted : (xs : List TargetRow) → all_acts on_targets (card_changes idents ks) xs
      ≡ without target_of (keys targets_go) xs ++ flat_map (λ k. flat_map (come_targets idents) k.card_diffs) ks
  targets_acted xs = phases on_targets xs ∙ all_targets_brought idents ks (all_acts on_targets (all_moves ks) (all_acts on_targets all_gone xs))
      ∙ ap (λ t. t ++ flat_map (λ k. flat_map (come_targets idents) k.card_diffs) ks)
      (idle_acts on_targets (all_moves ks) _ (moves_each (λ c. on_targets c ≡ Nothing) (λ d from by. refl) ks)
      ∙ acts_without on_targets target_of (λ k. flat_map (gone_of idents) k.card_diffs) (λ k. flat_map (key_of idents targets_go) k.card_diffs)
      (λ k ys. acts_without on_targets target_of (gone_of idents) (key_of idents targets_go) (targets_gone idents) k.card_diffs ys) ks xs)

-- ---- lists of lists

pub flat_twice : {A B C : Type 0} (f : B → List C) (g : A → List B) (xs : List A) → flat_map f (flat_map g xs) ≡ flat_map (λ x. flat_map f (g x)) xs
flat_twice f g [] = refl
flat_twice f g (x ∷ xs) = flat_map-append f (g x) (flat_map g xs) ∙ ap (λ t. flat_map f (g x) ++ t) (flat_twice f g xs)

all_split : {A B : Type 0} (P : B → Type 0) (g : A → List B) (xs : List A) → AllByRecursion P (flat_map g xs) → AllByRecursion (λ x. AllByRecursion P (g x)) xs
all_split P g [] all = tt
all_split P g (x ∷ xs) all = (all_front P (g x) (flat_map g xs) all, all_split P g xs (all_back P (g x) (flat_map g xs) all))

-- decks without cards have no rows
flat_standing : {A : Type 0} (f : DeckView → List A) → ((d : ℕ) → f (record { ident = d; cards = [] }) ≡ []) → (ds : List DeckView)
    → flat_map f (standing ds) ≡ flat_map f ds
flat_standing f none [] = refl
flat_standing f none (d ∷ ds) = one d.ident d.cards (flat_standing f none ds)
  where
    one : (a : ℕ) (cards : List CardView) → flat_map f (standing ds) ≡ flat_map f ds
        → flat_map f (standing (record { ident = a; cards = cards } ∷ ds)) ≡ f (record { ident = a; cards = cards }) ++ flat_map f ds
    one a [] later = rw (none a) later
    one a (c ∷ cs) later = ap (λ t. f (record { ident = a; cards = c ∷ cs }) ++ t) later

-- what is made of decks that have the same cards
pub same_standing : {A : Type 0} (f : DeckView → List A) → ((d : ℕ) → f (record { ident = d; cards = [] }) ≡ [])
    → (g : DeckDiffView → DeckView) (ks : List DeckDiffView) (ds : List DeckView)
    → standing (map g ks) ≡ standing ds → flat_map (λ k. f (g k)) ks ≡ flat_map f ds
same_standing f none g ks ds e = sym (flat_map-map f g ks) ∙ sym (flat_standing f none (map g ks)) ∙ ap (flat_map f) e ∙ flat_standing f none ds

-- ---- rows under names that stay

rows_agree : {A : Type 0} (row : CardRef → CardView → List A) (old new : List Ident) (cards : List CardView)
    → AllByRecursion (λ c. ref_of new c ≡ ref_of old c) cards
    → flat_map (λ c. row (ref_of old c) c) cards ≡ flat_map (λ c. row (ref_of new c) c) cards
rows_agree row old new [] stay = refl
rows_agree row old new (c ∷ cards) stay = rw stay.0 (ap (λ t. row (ref_of old c) c ++ t) (rows_agree row old new cards stay.1))

refs_agree : (old new : List Ident) (cards : List CardView) → AllByRecursion (λ c. ref_of new c ≡ ref_of old c) cards → map (ref_of old) cards
    ≡ map (ref_of new) cards
refs_agree old new [] stay = refl
refs_agree old new (c ∷ cards) stay = λ i. sym stay.0 i ∷ refs_agree old new cards stay.1 i

card_rows_agree : (old new : List Ident) (d p : ℕ) (cards : List CardView) → AllByRecursion (λ c. ref_of new c ≡ ref_of old c) cards
    → card_rows old d p cards ≡ card_rows new d p cards
card_rows_agree old new d p [] stay = refl
card_rows_agree old new d p (c ∷ cards) stay =
    let later = card_rows_agree old new d (p + 1) cards stay.1 in λ i. record { card = sym stay.0 i; deck = d; pos = p; body = c.text } ∷ later i

deck_rows_agree : (old new : List Ident) (ds : List DeckView) → AllByRecursion (λ c. ref_of new c ≡ ref_of old c) (flat_map (λ d. d.cards) ds)
    → flat_map (λ d. card_rows old d.ident 0 d.cards) ds ≡ flat_map (λ d. card_rows new d.ident 0 d.cards) ds
deck_rows_agree old new [] stay = refl
deck_rows_agree old new (d ∷ ds) stay =
    let here = card_rows_agree old new d.ident 0 d.cards (all_front _ d.cards (flat_map (λ d. d.cards) ds) stay) in
    let later = deck_rows_agree old new ds (all_back _ d.cards (flat_map (λ d. d.cards) ds) stay) in
    λ i. here i ++ later i

-- ---- what is left of elements that differ

all_kept_of : {A B : Type 0} (P : B → Type 0) (f : A → B) (test : A → Bool) (xs : List A) → AllByRecursion P (map f xs)
    → AllByRecursion P (map f (filter test xs))
all_kept_of P f test [] all = tt
all_kept_of P f test (x ∷ xs) all = go (test x) (all_kept_of P f test xs all.1)
  where
    go : (b : Bool) → AllByRecursion P (map f (filter test xs)) → AllByRecursion P (map f (cond b (x ∷ filter test xs) (filter test xs)))
    go true later = (all.0, later)
    go false later = later

apart_filter : {A B : Type 0} (f : A → B) (test : A → Bool) (xs : List A) → AreApart (map f xs) → AreApart (map f (filter test xs))
apart_filter f test [] apart = tt
apart_filter f test (x ∷ xs) apart = go (test x) (all_kept_of (λ y. f x ≡ y → ⊥) f test xs apart.0) (apart_filter f test xs apart.1)
  where
    go : (b : Bool) → AllByRecursion (λ y. f x ≡ y → ⊥) (map f (filter test xs)) → AreApart (map f (filter test xs))
        → AreApart (map f (cond b (x ∷ filter test xs) (filter test xs)))
    go true here later = (here, later)
    go false here later = later

-- ---- the law

module _ (old new : LibraryView) (ks : List DeckDiffView) (sound : IsSound old) (goes : Continues old.idents new.idents) (lead : Lead
    (all_decks old) (all_decks new) ks) where
  abbrev pub card_diffs : List CardDiffView
  card_diffs = flat_map (λ k. k.card_diffs) ks

  pub before_is : flat_map card_before card_diffs ≡ all_cards old
  before_is = flat_twice card_before (λ k. k.card_diffs) ks ∙ same_standing (λ d. d.cards) (λ d. refl) deck_before ks (all_decks old) lead.olds

  pub after_is : flat_map card_after card_diffs ≡ all_cards new
  after_is = flat_twice card_after (λ k. k.card_diffs) ks ∙ same_standing (λ d. d.cards) (λ d. refl) deck_after ks (all_decks new) lead.news

  pub stay : AllByRecursion (λ c. ref_of new.idents c ≡ ref_of old.idents c) (all_cards old)
  stay = refs_stay old new.idents sound goes (all_cards old) sound.cards

  apart : AreApart (map (ref_of new.idents) (flat_map card_before card_diffs))
  apart = subst (λ cs. AreApart (map (ref_of new.idents) cs)) (sym before_is) (subst AreApart (refs_agree old.idents new.idents
      (all_cards old) stay) (refs_apart old sound))

  -- the keys of flagged cards fit
  fit : (mark : CardDiffView → Bool) → AllByRecursion (Fits new.idents mark (keys new.idents ks mark)) card_diffs
  fit mark = subst (λ keys. AllByRecursion (Fits new.idents mark keys) card_diffs) (flat_twice (key_of new.idents mark) (λ k. k.card_diffs) ks)
      (keys_fit new.idents mark card_diffs apart)

  pub all_kept : AllByRecursion IsKept card_diffs
  all_kept = all_flat IsKept (λ k. k.card_diffs) ks lead.kept

  ages_apart : AreApart (ages_before ks)
  ages_apart = subst (λ ds. AreApart (map (λ d. d.ident) ds)) (sym lead.olds) (apart_filter (λ d. d.ident) has_cards (all_decks old) (rising_apart
      (map (λ d. d.ident) (all_decks old)) sound.deck_ages))

  -- the changes of the directory leave the other tables unchanged
  past_idents : {A : Type 0} (e : ChangeView → Effect A) (xs : List A) → AreIdle e (ident_changes old.idents new.idents)
      → all_acts e (row_changes old.idents new.idents ks) xs ≡ all_acts e (card_changes new.idents ks) xs
  past_idents e xs idle =
      acts_append e (ident_changes old.idents new.idents) (card_changes new.idents ks) xs
      ∙ ap (all_acts e (card_changes new.idents ks)) (idle_acts e (ident_changes old.idents new.idents) xs idle)

  idents_are : all_acts on_idents (row_changes old.idents new.idents ks) old.idents ≡ new.idents
  idents_are =
      acts_append on_idents (ident_changes old.idents new.idents) (card_changes new.idents ks) old.idents
      ∙ cards_idle new.idents ks (all_acts on_idents (ident_changes old.idents new.idents) old.idents) ∙ directory_done old.idents new.idents sound.ages goes

  old_cards : (rows_of old).cards ≡ flat_map (λ k. card_rows new.idents k.deck 0 (flat_map card_before k.card_diffs)) ks
  old_cards =
      deck_rows_agree old.idents new.idents (all_decks old) stay
      ∙ sym (same_standing (λ d. card_rows new.idents d.ident 0 d.cards) (λ d. refl) deck_before ks (all_decks old) lead.olds)

  -- the rows of cards after the deletions
  cards_left_are : all_acts on_cards (all_gone new.idents ks) (rows_of old).cards ≡ all_from new.idents ks
  cards_left_are =
      ap (all_acts on_cards (all_gone new.idents ks)) old_cards
      ∙ cards_gone_of new.idents ks (flat_map (λ k. card_rows new.idents k.deck 0 (flat_map card_before k.card_diffs)) ks)
      ∙ cards_left new.idents (keys new.idents ks card_goes) ks (all_split (Fits new.idents card_goes (keys new.idents ks card_goes))
      (λ k. k.card_diffs) ks (fit card_goes))

  moves_carry : Carry (all_moves ks) (all_from new.idents ks) (all_to new.idents ks)
  moves_carry = all_moves_do new.idents ks ages_apart lead.short

  cards_are : IsSame (all_acts on_cards (row_changes old.idents new.idents ks) (rows_of old).cards) (rows_of new).cards
  cards_are =
      same_trans (same_of _ _ (
      past_idents on_cards (rows_of old).cards (idents_all (λ c. on_cards c ≡ Nothing) (λ i. refl) (λ age. refl) old.idents new.idents)
      ∙ cards_acted new.idents ks (rows_of old).cards
      ∙ ap (λ t. all_acts on_cards (all_moves ks) t ++ flat_map (λ k. come_cards new.idents k.deck 0 k.card_diffs) ks) cards_left_are
      ∙ ap (λ t. t ++ flat_map (λ k. come_cards new.idents k.deck 0 k.card_diffs) ks) moves_carry.are))
      (same_trans (same_woven (λ k. AllByRecursion IsKept k.card_diffs) (λ k. kept_to new.idents k.deck 0 k.card_diffs)
      (λ k. come_cards new.idents k.deck 0 k.card_diffs)
      (λ k. card_rows new.idents k.deck 0 (flat_map card_after k.card_diffs)) (cards_woven new.idents) ks lead.kept)
      (same_of _ _ (same_standing (λ d. card_rows new.idents d.ident 0 d.cards) (λ d. refl) deck_after ks (all_decks new) lead.news)))

  -- entries and targets: rows of a card, whatever its position
  module _ {A : Type 0} (e : ChangeView → Effect A) (card : A → CardRef) (row : CardRef → CardView → List A) (mark : CardDiffView → Bool)
      (come : CardDiffView → List A)
      (own : (keys : List CardRef) (c : CardView) → without card keys (row (ref_of new.idents c) c)
      ≡ cond (is_in keys (ref_of new.idents c)) [] (row (ref_of new.idents c) c))
      (idle : AreIdle e (ident_changes old.idents new.idents))
      (acted : (xs : List A) → all_acts e (card_changes new.idents ks) xs ≡ without card (keys new.idents ks mark) xs
      ++ flat_map (λ k. flat_map come k.card_diffs) ks)
      (woven : (f : CardDiffView) → IsKept f
      → IsSame (staying mark (λ c. row (ref_of new.idents c) c) f ++ come f) (flat_map (λ c. row (ref_of new.idents c) c) (card_after f))) where
    rows_are : IsSame (all_acts e (row_changes old.idents new.idents ks) (flat_map (λ c. row (ref_of old.idents c) c) (all_cards old)))
        (flat_map (λ c. row (ref_of new.idents c) c) (all_cards new))
    rows_are =
        same_trans (same_of _ _ (
        past_idents e (flat_map (λ c. row (ref_of old.idents c) c) (all_cards old)) idle
        ∙ ap (all_acts e (card_changes new.idents ks)) (rows_agree row old.idents new.idents (all_cards old) stay
        ∙ ap (flat_map (λ c. row (ref_of new.idents c) c)) (sym before_is))
        ∙ acted (flat_map (λ c. row (ref_of new.idents c) c) (flat_map card_before card_diffs))
        ∙ ap (λ t. t ++ flat_map (λ k. flat_map come k.card_diffs) ks) (rows_left card new.idents (λ c. row (ref_of new.idents c) c) mark
        (keys new.idents ks mark) own card_diffs (fit mark))
        ∙ ap (λ t. flat_map (staying mark (λ c. row (ref_of new.idents c) c)) card_diffs ++ t) (sym (flat_twice come (λ k. k.card_diffs) ks))))
        (same_trans (same_woven IsKept (staying mark (λ c. row (ref_of new.idents c) c)) come (λ f. flat_map (λ c. row (ref_of new.idents c) c)
        (card_after f)) woven card_diffs all_kept)
        (same_of _ _ (sym (flat_twice (λ c. row (ref_of new.idents c) c) card_after card_diffs) ∙ ap (flat_map (λ c. row (ref_of new.idents c) c)) after_is)))

  pub row_changes_show : (rows : Rows) → Shows rows old → Shows (done_all (row_changes old.idents new.idents ks) rows) new
  row_changes_show rows shows = record {
    idents = same_trans (same_of _ _ (idents_after (row_changes old.idents new.idents ks) rows))
        (same_trans (acts_same on_idents (row_changes old.idents new.idents ks) shows.idents) (same_of _ _ idents_are));
    cards = same_trans (same_of _ _ (cards_after (row_changes old.idents new.idents ks) rows))
        (same_trans (acts_same on_cards (row_changes old.idents new.idents ks) shows.cards) cards_are);
    entries = same_trans (same_of _ _ (entries_after (row_changes old.idents new.idents ks) rows))
        (same_trans (acts_same on_entries (row_changes old.idents new.idents ks) shows.entries)
        (rows_are on_entries entry_of (λ r c. entry_rows r 0 c.history) entries_go (come_entries new.idents) (entries_are_of new.idents)
        (idents_all (λ c. on_entries c ≡ Nothing) (λ i. refl) (λ age. refl) old.idents new.idents) (entries_acted new.idents ks) (entries_woven new.idents)));
    targets = same_trans (same_of _ _ (targets_after (row_changes old.idents new.idents ks) rows))
        (same_trans (acts_same on_targets (row_changes old.idents new.idents ks) shows.targets)
        (rows_are on_targets target_of (λ r c. target_rows r 0 c.targets) targets_go (come_targets new.idents) (targets_are_of new.idents)
        (idents_all (λ c. on_targets c ≡ Nothing) (λ i. refl) (λ age. refl) old.idents new.idents) (targets_acted new.idents ks) (targets_woven new.idents)));
  }

  abbrev gone : List ChangeView
  gone = all_gone new.idents ks

  abbrev begun : Rows → Rows
  begun rows = done_all (ident_changes old.idents new.idents) rows

  left : (rows : Rows) → Shows rows old → IsSame (done_all gone (begun rows)).cards (all_from new.idents ks)
  left rows shows =
      same_trans (same_of _ _ (cards_after gone (begun rows)
      ∙ ap (all_acts on_cards gone) (cards_after (ident_changes old.idents new.idents) rows
      ∙ idle_acts on_cards (ident_changes old.idents new.idents) rows.cards (idents_all (λ c. on_cards c ≡ Nothing) (λ i. refl)
      (λ age. refl) old.idents new.idents))))
      (same_trans (acts_same on_cards gone shows.cards) (same_of _ _ cards_left_are))

  -- tables that show the old library can carry the changes out
  pub row_changes_fit : (rows : Rows) → Shows rows old → AllFit (row_changes old.idents new.idents ks) rows
  row_changes_fit rows shows =
      fit_append (ident_changes old.idents new.idents) (card_changes new.idents ks) rows
      (any_fit (ident_changes old.idents new.idents) rows (idents_all FitsAny (λ i r. tt) (λ age r. tt) old.idents new.idents))
      (fit_append gone (all_moves ks ++ all_brought new.idents ks) (begun rows)
      (any_fit gone (begun rows) (gone_each FitsAny (λ card r. tt) (λ card r. tt) (λ card targets r. tt) new.idents ks))
      (fit_append (all_moves ks) (all_brought new.idents ks) (done_all gone (begun rows))
      (fit_same (all_moves ks) (done_all gone (begun rows)) (of_cards (all_from new.idents ks)) (left rows shows) moves_carry.fit)
      (any_fit (all_brought new.idents ks) (done_all (all_moves ks) (done_all gone (begun rows)))
      (brought_each FitsAny (λ card d p body r. tt) (λ card n e r. tt) (λ card n t r. tt) new.idents ks))))
