-- What row changes do to statuses and counts: they delete the status rows of cards that are gone, and nothing else.
use Rattle.upd_diff.proofs.Common.{◌≡◌, ℕ, zero, suc, Bool, true, false, cond, List, [], ◌∷◌, ◌++◌, slice_get, Some, refl, ap, sym, ◌∙◌, not, ◌||◌, filter}
use Rattle.upd_diff.proofs.Common.{find, flat_map, list_any, AllByRecursion, Contains, same_Some, CardRef, Ident, CardView, DeckView, LibraryView, all_decks}
use Rattle.upd_diff.proofs.Common.{is_deck, ref_of, Continues, IsSound, all_cards, at_contained, contained_at, Rows, same_ref, ChangeView, IdentNew}
use Rattle.upd_diff.proofs.Common.{IdentPurged, CardNew, CardGone, CardsMoved, EntryNew, EntriesGone, TargetNew, TargetsGone, StatusNow, CountNow, done}
use Rattle.upd_diff.proofs.Common.{done_all, CardDiffView, DeckDiffView, Kept, Gone, New, Lead, IsKept, card_after, card_before, TakeGone, row_changes_state}
use Rattle.upd_diff.proofs.Common.{brought, card_changes, gone_of, ident_changes, moves, row_changes, same_ref_own}
use Rattle.std.proofs.Common.{Option, None, is_some}
use Rattle.upd_core.specs.declared.library.Place.{Place}
use Rattle.upd_core.specs.Library.{card_in, place_of}
use Rattle.upd_core.specs.Status.{status_of}
use Rattle.upd_core.proofs.ApartLemmas.{all_of_contained, find_at}
use Rattle.upd_core.proofs.FoundLemmas.{card_of_place, in_flat, status_at}
use Rattle.upd_records.specs.Rows.{StateRow}
use Rattle.upd_diff.specs.States.{takes_card}
use Rattle.upd_diff.specs.RowChanges.{target_changes}
use Rattle.upd_diff.proofs.AllLemmas.{all_joined}
use Rattle.upd_records.proofs.EffectLemmas.{any_append}
use Rattle.upd_diff.proofs.KindLemmas.{idents_all, gone_each, moves_each, brought_each}
use Rattle.upd_records.proofs.EqualLemmas.{same_ref_is}
use Rattle.upd_diff.proofs.RowChangeLemmas.{after_is, all_kept, before_is, card_diffs, flat_twice, stay}

-- ---- tests of some

pub any_of : {A : Type 0} (test : A → Bool) (xs : List A) (k : ℕ) (x : A) → slice_get xs k ≡ Some x → test x ≡ true → list_any test xs ≡ true
any_of test [] k x at is = absurd (cc)
any_of test (y ∷ xs) zero x at is = ap (λ b. b || list_any test xs) (ap test (same_Some y x at) ∙ is)
any_of test (y ∷ xs) (suc k) x at is = or_later (test y) (list_any test xs) (any_of test xs k x at is)
  where
    or_later : (a b : Bool) → b ≡ true → (a || b) ≡ true
    or_later true b e = refl
    or_later false b e = e

any_later : {A : Type 0} (test : A → Bool) (xs ys : List A) → list_any test ys ≡ true → list_any test (xs ++ ys) ≡ true
any_later test xs ys e = any_append test xs ys ∙ go (list_any test xs) (list_any test ys) e
  where
    go : (a b : Bool) → b ≡ true → (a || b) ≡ true
    go true b e = refl
    go false b e = e

any_first : {A : Type 0} (test : A → Bool) (xs ys : List A) → list_any test xs ≡ true → list_any test (xs ++ ys) ≡ true
any_first test xs ys e = any_append test xs ys ∙ ap (λ b. b || list_any test ys) e

-- ---- a card in a deck is one of all cards, and a reference without a status is that of no card

-- whether a card has a reference
abbrev has_ref : List Ident → CardRef → CardView → Bool
has_ref idents r c = same_ref r (ref_of idents c)

card_of_all : (l : LibraryView) (p : Place) (c : CardView) → card_in p l ≡ Some c → Contains (all_cards l) c
card_of_all l p c at = go (find (is_deck p.deck) (all_decks l)) refl
  where
    go : (o : Option DeckView) → find (is_deck p.deck) (all_decks l) ≡ o → Contains (all_cards l) c
    go None f = let none = rw f at at in absurd (cc)
    go (Some d) f = let found = find_at (is_deck p.deck) (all_decks l) d f in in_flat (all_decks l) found.0 d p.index c found.1 (rw f at at)

some_card : (old new : LibraryView) (r : CardRef) → IsSound old → AllByRecursion (λ c. ref_of new.idents c ≡ ref_of old.idents c) (all_cards old)
    → is_some (status_of r old) ≡ true → list_any (has_ref new.idents r) (all_cards old) ≡ true
some_card old new r sound stay some = go (place_of r old) refl
  where
    go : (o : Option Place) → place_of r old ≡ o → list_any (has_ref new.idents r) (all_cards old) ≡ true
    go None f = let none = rw f at some in absurd (cc)
    go (Some p) f =
        let named = card_of_place old r p sound f in
        let is = card_of_all old p named.0 named.1 in
        let at = contained_at (all_cards old) named.0 is in
        let stays = all_of_contained (λ c. ref_of new.idents c ≡ ref_of old.idents c) (all_cards old) named.0 stay is in
        let same : ref_of new.idents named.0 ≡ r = stays ∙ named.2 in
        any_of (has_ref new.idents r) (all_cards old) at.0 named.0 at.1 (ap (same_ref r) same ∙ same_ref_own r)

no_card : (l : LibraryView) (r : CardRef) → IsSound l → status_of r l ≡ None → list_any (has_ref l.idents r) (all_cards l) ≡ false
no_card l r sound none = decks (all_decks l) (λ d is. is)
  where
    other : (d : DeckView) (c : CardView) → Contains (all_decks l) d → Contains d.cards c → (b : Bool) → has_ref l.idents r c ≡ b → b ≡ false
    other d c in_decks in_cards false e = refl
    other d c in_decks in_cards true e =
        let there = ap (λ x. status_of x l) (same_ref_is r (ref_of l.idents c) e) ∙ status_at l d c sound in_decks in_cards in
        absurd (let q = sym none ∙ there in cc)

    cards : (d : DeckView) (cs : List CardView) → Contains (all_decks l) d → ((c : CardView) → Contains cs c → Contains d.cards c)
        → list_any (has_ref l.idents r) cs ≡ false
    cards d [] in_decks inside = refl
    cards d (c ∷ cs) in_decks inside =
        let here = other d c in_decks (inside c (at_contained (c ∷ cs) zero c refl)) (has_ref l.idents r c) refl in
        let rest = cards d cs in_decks (λ x is. let at = contained_at cs x is in inside x (at_contained (c ∷ cs) (suc at.0) x at.1)) in
        (λ i. here i || rest i)

    decks : (ds : List DeckView) → ((d : DeckView) → Contains ds d → Contains (all_decks l) d)
        → list_any (has_ref l.idents r) (flat_map (λ d. d.cards) ds) ≡ false
    decks [] inside = refl
    decks (d ∷ ds) inside =
        let here = cards d d.cards (inside d (at_contained (d ∷ ds) zero d refl)) (λ c is. is) in
        let rest = decks ds (λ e is. let at = contained_at ds e is in inside e (at_contained (d ∷ ds) (suc at.0) e at.1)) in
        any_append (has_ref l.idents r) d.cards (flat_map (λ d. d.cards) ds) ∙ (λ i. here i || rest i)

-- ---- each card that is gone is deleted

gone_changes : (idents : List Ident) (r : CardRef) (fs : List CardDiffView) → AllByRecursion IsKept fs → list_any (has_ref idents r) (flat_map card_before fs)
    ≡ true
    → list_any (has_ref idents r) (flat_map card_after fs) ≡ false → list_any (takes_card r) (flat_map (gone_of idents) fs) ≡ true
gone_changes idents r [] kept was is = absurd (cc)
gone_changes idents r (Kept a b ∷ fs) kept was is =
    let same : has_ref idents r b ≡ has_ref idents r a = ap (has_ref idents r) kept.0 in
    any_later (takes_card r) (gone_of idents (Kept a b)) (flat_map (gone_of idents) fs)
    (go (has_ref idents r a) (has_ref idents r b) same was is (gone_changes idents r fs kept.1))
  where
    go : (x y : Bool) → y ≡ x → (x || list_any (has_ref idents r) (flat_map card_before fs)) ≡ true
        → (y || list_any (has_ref idents r) (flat_map card_after fs)) ≡ false
        → (list_any (has_ref idents r) (flat_map card_before fs) ≡ true → list_any (has_ref idents r) (flat_map card_after fs) ≡ false
        → list_any (takes_card r) (flat_map (gone_of idents) fs) ≡ true) → list_any (takes_card r) (flat_map (gone_of idents) fs) ≡ true
    go x true e was is later = absurd (cc)
    go true false e was is later = absurd (cc)
    go false false e was is later = later was is
gone_changes idents r (Gone a ∷ fs) kept was is = go (has_ref idents r a) refl (gone_changes idents r fs kept.1)
  where
    go : (x : Bool) → has_ref idents r a ≡ x
        → (list_any (has_ref idents r) (flat_map card_before fs) ≡ true → list_any (has_ref idents r) (flat_map card_after fs) ≡ false
        → list_any (takes_card r) (flat_map (gone_of idents) fs) ≡ true)
        → list_any (takes_card r) (gone_of idents (Gone a) ++ flat_map (gone_of idents) fs) ≡ true
    go true e later =
        any_first (takes_card r) (gone_of idents (Gone a)) (flat_map (gone_of idents) fs)
        (any_later (takes_card r) (target_changes idents a) (EntriesGone (ref_of idents a) ∷ CardGone (ref_of idents a) ∷ []) (ap (λ b. b || false) e))
    go false e later =
        any_later (takes_card r) (gone_of idents (Gone a)) (flat_map (gone_of idents) fs)
        (later (rw e at was) is)
gone_changes idents r (New b ∷ fs) kept was is = gone_changes idents r fs kept.1 was (later (has_ref idents r b) is)
  where
    later : (y : Bool) → (y || list_any (has_ref idents r) (flat_map card_after fs)) ≡ false → list_any (has_ref idents r) (flat_map card_after fs) ≡ false
    later true e = absurd (cc)
    later false e = e

-- ---- no status and no count is set

-- changes that set no status and no count
abbrev IsSilent : ChangeView → Type 0
IsSilent c = row_changes_state c ≡ false

abbrev pub AreSilent : List ChangeView → Type 0
AreSilent cs = AllByRecursion IsSilent cs

row_changes_silent : (old new : List Ident) (ks : List DeckDiffView) → AreSilent (row_changes old new ks)
row_changes_silent old new ks =
    all_joined IsSilent (ident_changes old new) (card_changes new ks) (idents_all IsSilent (λ i. refl) (λ age. refl) old new)
    (all_joined IsSilent (flat_map (λ k. flat_map (gone_of new) k.card_diffs) ks)
    (flat_map (λ k. moves k.deck 0 0 k.card_diffs) ks ++ flat_map (λ k. brought new k.deck 0 k.card_diffs) ks)
    (gone_each IsSilent (λ card. refl) (λ card. refl) (λ card targets. refl) new ks)
    (all_joined IsSilent (flat_map (λ k. moves k.deck 0 0 k.card_diffs) ks) (flat_map (λ k. brought new k.deck 0 k.card_diffs) ks)
    (moves_each IsSilent (λ d from by. refl) ks) (brought_each IsSilent (λ card d p body. refl) (λ card n e. refl) (λ card n t. refl) new ks)))

-- ---- row changes delete what is gone, and leave other statuses and the counts unchanged

pub row_changes_take : (old new : LibraryView) (ks : List DeckDiffView) → IsSound old → IsSound new → Continues old.idents new.idents
    → Lead (all_decks old) (all_decks new) ks → TakeGone old new (row_changes old.idents new.idents ks)
row_changes_take old new ks sound later goes lead = record {
  gone = λ r some none.
      let fs = card_diffs old new ks sound goes lead in
      let was = some_card old new r sound (stay old new ks sound goes lead) some in
      let is = no_card new r later none in
      let row_changes_gone = gone_changes new.idents r fs (all_kept old new ks sound goes lead)
      (ap (list_any (has_ref new.idents r)) (before_is old new ks sound goes lead) ∙ was)
      (ap (list_any (has_ref new.idents r)) (after_is old new ks sound goes lead) ∙ is) in
      let all = ap (list_any (takes_card r)) (sym (flat_twice (gone_of new.idents) (λ k. k.card_diffs) ks)) ∙ row_changes_gone in
      any_later (takes_card r) (ident_changes old.idents new.idents) (card_changes new.idents ks)
      (any_first (takes_card r) (flat_map (λ k. flat_map (gone_of new.idents) k.card_diffs) ks)
      (flat_map (λ k. moves k.deck 0 0 k.card_diffs) ks ++ flat_map (λ k. brought new.idents k.deck 0 k.card_diffs) ks) all);
  silent = row_changes_silent old.idents new.idents ks;
}

-- ---- rows that changes delete

-- none is left where all that is looked for is deleted
pub filter_gone : {A : Type 0} (taken looked : A → Bool) (xs : List A) → ((x : A) → looked x ≡ true → taken x ≡ true)
    → filter looked (filter (λ x. not (taken x)) xs) ≡ []
filter_gone taken looked [] all = refl
filter_gone taken looked (x ∷ xs) all = go (taken x) refl (looked x) refl (filter_gone taken looked xs all)
  where
    go : (a : Bool) → taken x ≡ a → (b : Bool) → looked x ≡ b → filter looked (filter (λ x. not (taken x)) xs) ≡ []
        → filter looked (filter (λ x. not (taken x)) (x ∷ xs)) ≡ []
    go true e b f later = rw e later
    go false e true f later = absurd (let h = sym e ∙ all x f in cc)
    go false e false f later = rw (e, f) later

-- all are left where none that is looked for is deleted
pub filter_kept : {A : Type 0} (taken looked : A → Bool) (xs : List A) → ((x : A) → looked x ≡ true → taken x ≡ false)
    → filter looked (filter (λ x. not (taken x)) xs) ≡ filter looked xs
filter_kept taken looked [] none = refl
filter_kept taken looked (x ∷ xs) none = go (taken x) refl (looked x) refl (filter_kept taken looked xs none)
  where
    go : (a : Bool) → taken x ≡ a → (b : Bool) → looked x ≡ b → filter looked (filter (λ x. not (taken x)) xs) ≡ filter looked xs
        → filter looked (filter (λ x. not (taken x)) (x ∷ xs)) ≡ filter looked (x ∷ xs)
    go true e true f later = absurd (let h = sym e ∙ none x f in cc)
    go true e false f later = rw (e, f) later
    go false e b f later = rw e (ap (λ t. cond (looked x) (x ∷ t) t) later)

-- the rows of one card once those of another one, or its own, are deleted
pub states_gone : (r k : CardRef) (xs : List StateRow) → same_ref r k ≡ true → filter (λ s. same_ref r s.card) (filter (λ s. not (same_ref k s.card)) xs) ≡ []
states_gone r k xs e =
    filter_gone (λ s. same_ref k s.card) (λ s. same_ref r s.card) xs (λ x is. ap (λ z. same_ref z x.card) (sym (same_ref_is r k e)) ∙ is)

pub states_kept : (r k : CardRef) (xs : List StateRow) → same_ref r k ≡ false
    → filter (λ s. same_ref r s.card) (filter (λ s. not (same_ref k s.card)) xs) ≡ filter (λ s. same_ref r s.card) xs
states_kept r k xs e = filter_kept (λ s. same_ref k s.card) (λ s. same_ref r s.card) xs (λ x is. other x is (same_ref k x.card) refl)
  where
    other : (x : StateRow) → same_ref r x.card ≡ true → (b : Bool) → same_ref k x.card ≡ b → b ≡ false
    other x is false f = refl
    other x is true f = let own : same_ref r k ≡ true = ap (same_ref r) (same_ref_is k x.card f) ∙ is in absurd (let q = sym own ∙ e in cc)

-- the row of a card is gone where it is deleted, else it stays
pub state_after : (cs : List ChangeView) (rows : Rows) (r : CardRef) → AreSilent cs → filter (λ s. same_ref r s.card) (done_all cs rows).states
    ≡ cond (list_any (takes_card r) cs) [] (filter (λ s. same_ref r s.card) rows.states)
state_after [] rows r silent = refl
state_after (c ∷ cs) rows r silent = state_after cs (done c rows) r silent.1 ∙ one c silent.0
  where
    one : (c : ChangeView) → row_changes_state c ≡ false
        → cond (list_any (takes_card r) cs) [] (filter (λ s. same_ref r s.card) (done c rows).states)
        ≡ cond (takes_card r c || list_any (takes_card r) cs) [] (filter (λ s. same_ref r s.card) rows.states)
    one (CardGone k) silent = go (same_ref r k) refl (list_any (takes_card r) cs)
      where
        go : (b : Bool) → same_ref r k ≡ b → (later : Bool)
            → cond later [] (filter (λ s. same_ref r s.card) (filter (λ s. not (same_ref k s.card)) rows.states))
            ≡ cond (b || later) [] (filter (λ s. same_ref r s.card) rows.states)
        go true e true = refl
        go true e false = states_gone r k rows.states e
        go false e true = refl
        go false e false = states_kept r k rows.states e
    one (IdentNew i) silent = refl
    one (IdentPurged age) silent = refl
    one (CardNew card deck place body) silent = refl
    one (CardsMoved deck from by) silent = refl
    one (EntryNew card ord entry) silent = refl
    one (EntriesGone card) silent = refl
    one (TargetNew card ord target) silent = refl
    one (TargetsGone card targets) silent = refl
    one (StatusNow card active) silent = absurd (cc)
    one (CountNow target n) silent = absurd (cc)

-- the counts stay
pub counts_after : (cs : List ChangeView) (rows : Rows) → AreSilent cs → (done_all cs rows).counts ≡ rows.counts
counts_after [] rows silent = refl
counts_after (c ∷ cs) rows silent = counts_after cs (done c rows) silent.1 ∙ one c silent.0
  where
    one : (c : ChangeView) → row_changes_state c ≡ false → (done c rows).counts ≡ rows.counts
    one (IdentNew i) silent = refl
    one (IdentPurged age) silent = refl
    one (CardNew card deck place body) silent = refl
    one (CardGone card) silent = refl
    one (CardsMoved deck from by) silent = refl
    one (EntryNew card ord entry) silent = refl
    one (EntriesGone card) silent = refl
    one (TargetNew card ord target) silent = refl
    one (TargetsGone card targets) silent = refl
    one (StatusNow card active) silent = absurd (cc)
    one (CountNow target n) silent = absurd (cc)
