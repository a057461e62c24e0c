-- Changes that take the statuses of a part to those after a plain run take the statuses of the whole to those after it.
use Rattle.upd_partial.proofs.Common.{◌≡◌, ℕ, Bool, true, false, not, cond, if◌then◌else◌, List, [], ◌∷◌, ◌++◌, length, Option, Some, None, Ok, refl, sym, ap}
use Rattle.upd_partial.proofs.Common.{◌∙◌, subst, filter-append, same_Some, ◌==◌, filter, flat_map, list_any, AllByRecursion, Contains, CardRef, Ident, Place}
use Rattle.upd_partial.proofs.Common.{CardView, DeckView, LibraryView, all_decks, place_of, ref_of, part, Continues, IsSound, all_cards, status_of}
use Rattle.upd_partial.proofs.Common.{all_by_index, all_of_contained, at_contained, contained_at, card_of_place, in_flat, place_at, ChangeView, DeckDiffView}
use Rattle.upd_partial.proofs.Common.{CardDiffView, Kept, card_before, same_ref, RowChanges, begins, brought, gone_of, ident_changes, moves, refs_stay}
use Rattle.upd_partial.proofs.Common.{taken_by_row_changes, LineView, Reached, applied, all_both, all_flat, all_weaker, run_goes, run_sound, cards_found}
use Rattle.upd_partial.proofs.Common.{same_ref_is, all_passed, DoesWithout, NamesNone, left_out}
use Rattle.std.proofs.Common.{is_some, append-nil}
use Rattle.upd_core.specs.Targets.{is_same}
use Rattle.upd_records.specs.Changes.{IdentNew, IdentPurged, CardNew, CardGone, CardsMoved, EntryNew, EntriesGone, TargetNew, TargetsGone}
use Rattle.upd_records.specs.Changes.{StatusNow, CountNow, done, done_all, with_status}
use Rattle.upd_records.proofs.StatusLemmas.{status_set}
use Rattle.upd_diff.specs.CardDiffs.{Gone, New}
use Rattle.upd_records.specs.Rows.{CountRow, Rows, ShowsStates, StateRow, count_rows, state_rows}
use Rattle.upd_diff.specs.States.{takes_card, row_changes_state}
use Rattle.upd_diff.specs.RowChanges.{card_changes, target_changes}
use Rattle.upd_diff.proofs.AllLemmas.{all_joined}
use Rattle.upd_diff.proofs.KindLemmas.{brought_each, idents_all, moves_each}
use Rattle.upd_diff.proofs.LeadLemmas.{paired_lead}
use Rattle.upd_diff.proofs.StateLemmas.{filter_gone, filter_kept, state_after, states_gone, states_kept}
use Rattle.upd_diff.proofs.RowChangeLemmas.{before_is, flat_twice}
use Rattle.upd_yank.proofs.RefLemmas.{same_ref_sym}
use Rattle.upd_partial.proofs.AppliedLemmas.{applied_left}
use Rattle.upd_partial.proofs.IdleLemmas.{yanks_as_before}
use Rattle.upd_partial.proofs.LeftLemmas.{left_status}
use Rattle.upd_partial.proofs.NeedLemmas.{among}
use Rattle.upd_partial.proofs.PartSoundLemmas.{part_sound}
use Rattle.upd_partial.proofs.PartStatusLemmas.{none_passes, other_ref, status_gone, status_in_whole, status_kept}

-- ---- what changes do to the state rows of one card

-- the state rows of a card
abbrev of_card : CardRef → Rows → List StateRow
of_card r rows = filter (λ s. same_ref r s.card) rows.states

-- a card's rows that are left once those of a card are deleted depend only on the card's rows
same_left : (r k : CardRef) (xs ys : List StateRow) → filter (λ s. same_ref r s.card) xs ≡ filter (λ s. same_ref r s.card) ys
    → filter (λ s. same_ref r s.card) (filter (λ s. not (same_ref k s.card)) xs) ≡ filter (λ s. same_ref r s.card) (filter (λ s. not (same_ref k s.card)) ys)
same_left r k xs ys same = go (same_ref r k) refl
  where
    go : (b : Bool) → same_ref r k ≡ b
        → filter (λ s. same_ref r s.card) (filter (λ s. not (same_ref k s.card)) xs)
        ≡ filter (λ s. same_ref r s.card) (filter (λ s. not (same_ref k s.card)) ys)
    go true e = states_gone r k xs e ∙ sym (states_gone r k ys e)
    go false e = states_kept r k xs e ∙ same ∙ sym (states_kept r k ys e)

-- the state rows of a card after a change depend only on those before it
same_states : (c : ChangeView) (r : CardRef) (xs ys : Rows) → of_card r xs ≡ of_card r ys → of_card r (done c xs) ≡ of_card r (done c ys)
same_states (CardGone k) r xs ys same = same_left r k xs.states ys.states same
same_states (StatusNow k active) r xs ys same =
    status_set r k active xs.states
    ∙ filter-append (λ s. same_ref r s.card) (filter (λ s. not (same_ref k s.card)) xs.states) (record { card = k; active = active } ∷ [])
    ∙ ap (λ t. t ++ filter (λ s. same_ref r s.card) (record { card = k; active = active } ∷ [])) (same_left r k xs.states ys.states same)
    ∙ sym (filter-append (λ s. same_ref r s.card) (filter (λ s. not (same_ref k s.card)) ys.states) (record { card = k; active = active } ∷ []))
    ∙ sym (status_set r k active ys.states)
same_states (IdentNew i) r xs ys same = same
same_states (IdentPurged age) r xs ys same = same
same_states (CardNew card deck place body) r xs ys same = same
same_states (CardsMoved deck from by) r xs ys same = same
same_states (EntryNew card ord entry) r xs ys same = same
same_states (EntriesGone card) r xs ys same = same
same_states (TargetNew card ord target) r xs ys same = same
same_states (TargetsGone card targets) r xs ys same = same
same_states (CountNow target n) r xs ys same = same

all_same_states : (cs : List ChangeView) (r : CardRef) (xs ys : Rows) → of_card r xs ≡ of_card r ys → of_card r (done_all cs xs) ≡ of_card r (done_all cs ys)
all_same_states [] r xs ys same = same
all_same_states (c ∷ cs) r xs ys same = all_same_states cs r (done c xs) (done c ys) (same_states c r xs ys same)

-- the count rows after a change depend only on those before it
same_counts : (c : ChangeView) (xs ys : Rows) → xs.counts ≡ ys.counts → (done c xs).counts ≡ (done c ys).counts
same_counts (CountNow target n) xs ys same = ap (λ (cs : List CountRow). filter (λ r. not (is_same target r.target)) cs ++ count_rows target n) same
same_counts (CardGone k) xs ys same = same
same_counts (StatusNow k active) xs ys same = same
same_counts (IdentNew i) xs ys same = same
same_counts (IdentPurged age) xs ys same = same
same_counts (CardNew card deck place body) xs ys same = same
same_counts (CardsMoved deck from by) xs ys same = same
same_counts (EntryNew card ord entry) xs ys same = same
same_counts (EntriesGone card) xs ys same = same
same_counts (TargetNew card ord target) xs ys same = same
same_counts (TargetsGone card targets) xs ys same = same

all_same_counts : (cs : List ChangeView) (xs ys : Rows) → xs.counts ≡ ys.counts → (done_all cs xs).counts ≡ (done_all cs ys).counts
all_same_counts [] xs ys same = same
all_same_counts (c ∷ cs) xs ys same = all_same_counts cs (done c xs) (done c ys) (same_counts c xs ys same)

-- status changes that once leave a card without a row never change its rows: none of them is of the card
untold : (cs : List ChangeView) (r : CardRef) (xs ys : Rows) → AllByRecursion (λ c. row_changes_state c ≡ true) cs → of_card r (done_all cs xs) ≡ []
    → of_card r (done_all cs ys) ≡ of_card r ys
untold [] r xs ys only none = refl
untold (c ∷ cs) r xs ys only none =
    untold cs r (done c xs) (done c ys) only.1 none
    ∙ one c only.0 (sym (untold cs r (done c xs) (done c xs) only.1 none) ∙ none)
  where
    one : (c : ChangeView) → row_changes_state c ≡ true → of_card r (done c xs) ≡ [] → of_card r (done c ys) ≡ of_card r ys
    one (StatusNow k active) tells none = go (same_ref r k) refl
      where
        row : List StateRow
        row = record { card = k; active = active } ∷ []

        split : (zs : List StateRow) → filter (λ s. same_ref r s.card) (with_status k active zs)
            ≡ filter (λ s. same_ref r s.card) (filter (λ s. not (same_ref k s.card)) zs) ++ filter (λ s. same_ref r s.card) row
        split zs = status_set r k active zs ∙ filter-append (λ s. same_ref r s.card) (filter (λ s. not (same_ref k s.card)) zs) row

        go : (b : Bool) → same_ref r k ≡ b → of_card r (done (StatusNow k active) ys) ≡ of_card r ys
        go true e =
            let here : filter (λ s. same_ref r s.card) row ≡ row = ap (λ b. cond b row []) e in
            let all : of_card r (done (StatusNow k active) xs) ≡ row = split xs.states ∙ (λ i. states_gone r k xs.states e i ++ here i) in
            absurd (let q = sym none ∙ all in cc)
        go false e =
            let here : filter (λ s. same_ref r s.card) row ≡ [] = ap (λ b. cond b row []) e in
            split ys.states ∙ (λ i. states_kept r k ys.states e i ++ here i) ∙ append-nil (of_card r ys)
    one (CountNow target n) tells none = refl
    one (CardGone k) tells none = absurd (cc)
    one (IdentNew i) tells none = absurd (cc)
    one (IdentPurged age) tells none = absurd (cc)
    one (CardNew card deck place body) tells none = absurd (cc)
    one (CardsMoved deck from by) tells none = absurd (cc)
    one (EntryNew card ord entry) tells none = absurd (cc)
    one (EntriesGone card) tells none = absurd (cc)
    one (TargetNew card ord target) tells none = absurd (cc)
    one (TargetsGone card targets) tells none = absurd (cc)

-- ---- row changes delete only cards that were there

-- a change doesn't delete a card
abbrev Leaves : CardRef → ChangeView → Type 0
Leaves r c = takes_card r c ≡ false

none_gone : (idents : List Ident) (r : CardRef) (card_diffs : List CardDiffView)
    → AllByRecursion (λ c. same_ref r (ref_of idents c) ≡ false) (flat_map card_before card_diffs)
    → AllByRecursion (Leaves r) (flat_map (gone_of idents) card_diffs)
none_gone idents r [] none = tt
none_gone idents r (Kept was is ∷ card_diffs) none =
    all_joined (Leaves r) (gone_of idents (Kept was is)) (flat_map (gone_of idents) card_diffs) (entries (begins was.history is.history))
    (none_gone idents r card_diffs none.1)
  where
    entries : (b : Bool) → AllByRecursion (Leaves r) (if b then [] else EntriesGone (ref_of idents was) ∷ [])
    entries true = tt
    entries false = (refl, tt)
none_gone idents r (Gone was ∷ card_diffs) none =
    all_joined (Leaves r) (gone_of idents (Gone was)) (flat_map (gone_of idents) card_diffs)
    (all_joined (Leaves r) (target_changes idents was) (EntriesGone (ref_of idents was) ∷ CardGone (ref_of idents was) ∷ [])
    (targets (length was.targets == 0)) (refl, (none.0, tt)))
    (none_gone idents r card_diffs none.1)
  where
    targets : (b : Bool) → AllByRecursion (Leaves r) (if b then [] else TargetsGone (ref_of idents was) was.targets ∷ [])
    targets true = tt
    targets false = (refl, tt)
none_gone idents r (New is ∷ card_diffs) none = none_gone idents r card_diffs none

untaken : (old new : LibraryView) (changes : List ChangeView) (r : CardRef) → IsSound old → Continues old.idents new.idents → RowChanges old new changes
    → AllByRecursion (λ c. same_ref r (ref_of new.idents c) ≡ false) (all_cards old) → list_any (takes_card r) changes ≡ false
untaken old new changes r sound goes t others =
    none_passes (takes_card r) changes (subst (AllByRecursion (Leaves r)) (sym t.are)
    (all_joined (Leaves r) (ident_changes old.idents new.idents) (card_changes new.idents ks)
    (idents_all (Leaves r) (λ i. refl) (λ age. refl) old.idents new.idents)
    (all_joined (Leaves r) (flat_map (λ k. flat_map (gone_of new.idents) k.card_diffs) ks)
    (flat_map (λ k. moves k.deck 0 0 k.card_diffs) ks ++ flat_map (λ k. brought new.idents k.deck 0 k.card_diffs) ks) gone
    (all_joined (Leaves r) (flat_map (λ k. moves k.deck 0 0 k.card_diffs) ks) (flat_map (λ k. brought new.idents k.deck 0 k.card_diffs) ks)
    (moves_each (Leaves r) (λ d from by. refl) ks)
    (brought_each (Leaves r) (λ card d p body. refl) (λ card n e. refl) (λ card n t. refl) new.idents ks)))))
  where
    ks : List DeckDiffView
    ks = t.decks

    gone : AllByRecursion (Leaves r) (flat_map (λ k. flat_map (gone_of new.idents) k.card_diffs) ks)
    gone =
        subst (AllByRecursion (Leaves r)) (flat_twice (gone_of new.idents) (λ (k : DeckDiffView). k.card_diffs) ks)
        (none_gone new.idents r (flat_map (λ (k : DeckDiffView). k.card_diffs) ks)
        (subst (AllByRecursion (λ c. same_ref r (ref_of new.idents c) ≡ false))
        (sym (before_is old new ks sound goes (paired_lead (all_decks old) (all_decks new) ks t.paired))) others))

-- ---- cards in decks that are left out

-- the deck that is left out, and the card, which a reference finds there
left_card : (out : ℕ → Bool) (l : LibraryView) (r : CardRef) (p : Place) → IsSound l → place_of r l ≡ Some p → out p.deck ≡ true
    → (d : DeckView) × (c : CardView) × Contains (left_out out l) d × Contains d.cards c × (ref_of l.idents c ≡ r)
left_card out l r p sound at left =
    let named = card_of_place l r p sound at in
    let deck = cards_found l p.deck p.index named.0 named.1 in
    let index = contained_at (all_decks l) deck.0 deck.1 in
    let there : Contains (left_out out l) deck.0 =
    all_passed (Contains (left_out out l)) (λ (d : DeckView). out d.ident) (all_decks l) index.0 deck.0 index.1 (ap out deck.2 ∙ left)
    (all_by_index (left_out out l) (λ k d here. at_contained (left_out out l) k d here)) in
    (deck.0, named.0, there, deck.3, named.2)

-- a card in a deck that is left out is found there
placed_left : (out : ℕ → Bool) (l : LibraryView) (d : DeckView) (c : CardView) → IsSound l → Contains (left_out out l) d → Contains d.cards c
    → (p : Place) × (place_of (ref_of l.idents c) l ≡ Some p) × (out p.deck ≡ true)
placed_left out l d c sound in_left in_cards =
    let at = contained_at (left_out out l) d in_left in
    let there = among (λ (x : DeckView). out x.ident) (all_decks l) at.0 d at.1 in
    let place = contained_at d.cards c in_cards in
    (record { deck = d.ident; index = place.0 }, place_at l d place.0 c sound (at_contained (all_decks l) there.index d there.found) place.1, there.passes)

-- ---- the law

module _ (out : ℕ → Bool) (lines : List LineView) (l : LibraryView) (reached : Reached) (yanks : out 0 ≡ false) (sound : IsSound l)
    (does : DoesWithout out lines l) (no_yank : NamesNone (λ d. d == 0) lines l) (is : applied lines l ≡ Ok reached) where
  abbrev m : LibraryView
  m = reached.library

  later : IsSound m
  later = run_sound lines l reached sound is

  goes : Continues l.idents m.idents
  goes = run_goes lines l reached is

  same_left_out : left_out out m ≡ left_out out l
  same_left_out = applied_left out lines l reached sound does is

  -- a card in a deck left out keeps its reference
  left_ref : (d : DeckView) (c : CardView) → Contains (left_out out l) d → Contains d.cards c → ref_of m.idents c ≡ ref_of l.idents c
  left_ref d c in_left in_cards =
      let at = contained_at (left_out out l) d in_left in
      let there = among (λ (x : DeckView). out x.ident) (all_decks l) at.0 d at.1 in
      let place = contained_at d.cards c in_cards in
      all_of_contained (λ x. ref_of m.idents x ≡ ref_of l.idents x) (all_cards l) c (refs_stay l m.idents sound goes (all_cards l) sound.cards)
      (in_flat (all_decks l) there.index d place.0 c there.found place.1)

  -- what a reference finds in a deck left out it found in one, and finds in one after the run
  left_before : (r : CardRef) (q : Place) → place_of r m ≡ Some q → out q.deck ≡ true → (p : Place) × (place_of r l ≡ Some p) × (out p.deck ≡ true)
  left_before r q at left =
      let card = left_card out m r q later at left in
      let in_left : Contains (left_out out l) card.0 = subst (λ ds. Contains ds card.0) same_left_out card.2 in
      let placed = placed_left out l card.0 card.1 sound in_left card.3 in
      (placed.0, ap (λ x. place_of x l) (sym card.4 ∙ left_ref card.0 card.1 in_left card.3) ∙ placed.1, placed.2)

  left_after : (r : CardRef) (p : Place) → place_of r l ≡ Some p → out p.deck ≡ true → (q : Place) × (place_of r m ≡ Some q) × (out q.deck ≡ true)
  left_after r p at left =
      let card = left_card out l r p sound at left in
      let placed = placed_left out m card.0 card.1 later (subst (λ ds. Contains ds card.0) (sym same_left_out) card.2) card.3 in
      (placed.0, ap (λ x. place_of x m) (sym card.4 ∙ sym (left_ref card.0 card.1 card.2 card.3)) ∙ placed.1, placed.2)

  -- and it keeps its status
  left_stays : (r : CardRef) (p : Place) → place_of r l ≡ Some p → out p.deck ≡ true → status_of r m ≡ status_of r l
  left_stays r p at left =
      let card = left_card out l r p sound at left in
      subst (λ x. status_of x m ≡ status_of x l) card.4
      (left_status out lines l reached sound does is (yanks_as_before out lines l reached sound does no_yank is) card.0 card.1 card.2 card.3)

  -- no change of the part deletes it
  left_untaken : (changes : List ChangeView) (r : CardRef) (p : Place) → RowChanges (part out l) (part out m) changes → place_of r l ≡ Some p → out p.deck
      ≡ true
      → list_any (takes_card r) changes ≡ false
  left_untaken changes r p row_changes at left =
      untaken (part out l) (part out m) changes r (part_sound out l sound) goes row_changes
      (all_weaker (λ c. (same_ref (ref_of l.idents c) r ≡ false) × (ref_of m.idents c ≡ ref_of l.idents c)) (λ c. same_ref r (ref_of m.idents c) ≡ false)
      (all_cards (part out l)) (λ c both. ap (same_ref r) both.1 ∙ same_ref_sym r (ref_of l.idents c) ∙ both.0)
      (all_both (λ c. same_ref (ref_of l.idents c) r ≡ false) (λ c. ref_of m.idents c ≡ ref_of l.idents c) (all_cards (part out l)) others
      (refs_stay (part out l) m.idents (part_sound out l sound) goes (all_cards (part out l)) (part_sound out l sound).cards)))
    where
      others : AllByRecursion (λ c. same_ref (ref_of l.idents c) r ≡ false) (all_cards (part out l))
      others = all_flat (λ c. same_ref (ref_of l.idents c) r ≡ false) (λ (d : DeckView). d.cards) (all_decks (part out l))
          (all_by_index (all_decks (part out l)) (λ j d here. all_by_index d.cards (λ k c there. other_ref out l r p sound yanks at left d c
          (at_contained (all_decks (part out l)) j d here) (at_contained d.cards k c there))))

  -- ---- rows of the part

  -- whether a row is that of no card of the part
  abbrev is_other : StateRow → Bool
  is_other s = not (is_some (status_of s.card (part out l)))

  abbrev rows_in : Rows → Rows
  rows_in rows = record rows { states = filter (λ s. not (is_other s)) rows.states }

  shows_in : (rows : Rows) → ShowsStates rows l → ShowsStates (rows_in rows) (part out l)
  shows_in rows shows = record { states = λ r. go r (status_of r (part out l)) refl; counts = shows.counts }
    where
      of_row : (r : CardRef) (s : StateRow) → same_ref r s.card ≡ true → is_other s ≡ not (is_some (status_of r (part out l)))
      of_row r s looked = ap (λ x. not (is_some (status_of x (part out l)))) (sym (same_ref_is r s.card looked))

      go : (r : CardRef) (o : Option Bool) → status_of r (part out l) ≡ o → of_card r (rows_in rows) ≡ state_rows r (status_of r (part out l))
      go r None e =
          filter_gone is_other (λ s. same_ref r s.card) rows.states (λ s looked. of_row r s looked ∙ ap (λ o. not (is_some o)) e)
          ∙ sym (ap (state_rows r) e)
      go r (Some active) e =
          filter_kept is_other (λ s. same_ref r s.card) rows.states (λ s looked. of_row r s looked ∙ ap (λ o. not (is_some o)) e)
          ∙ shows.states r ∙ ap (state_rows r) (status_in_whole out l r active sound yanks e ∙ sym e)

  module _ (run updates : List ChangeView) (row_changes : RowChanges (part out l) (part out m) run)
      (only : AllByRecursion (λ c. row_changes_state c ≡ true) updates)
      (leads : (rows : Rows) → ShowsStates rows (part out l) → ShowsStates (done_all updates (done_all run rows)) (part out m))
      (rows : Rows) (shows : ShowsStates rows l) where
    in_part : ShowsStates (done_all updates (done_all run (rows_in rows))) (part out m)
    in_part = leads (rows_in rows) (shows_in rows shows)

    -- a card in no deck left out has the same rows in the part, before and after
    kept_after : (r : CardRef) → ((p : Place) → place_of r l ≡ Some p → out p.deck ≡ false)
        → of_card r (done_all updates (done_all run rows)) ≡ state_rows r (status_of r m)
    kept_after r stays =
        all_same_states updates r (done_all run rows) (done_all run (rows_in rows)) (all_same_states run r rows (rows_in rows) before) ∙ in_part.states r
        ∙ ap (state_rows r) (status_kept out m r later yanks (λ q at. by q at (out q.deck) refl))
      where
        before : of_card r rows ≡ of_card r (rows_in rows)
        before = shows.states r ∙ ap (state_rows r) (sym (status_kept out l r sound yanks stays)) ∙ sym ((shows_in rows shows).states r)

        by : (q : Place) → place_of r m ≡ Some q → (b : Bool) → out q.deck ≡ b → out q.deck ≡ false
        by q at false e = e
        by q at true e = let old = left_before r q at e in absurd (let bad = sym old.2 ∙ stays old.0 old.1 in cc)

    -- a card in a deck left out keeps its row
    left_row : (r : CardRef) (p : Place) → place_of r l ≡ Some p → out p.deck ≡ true
        → of_card r (done_all updates (done_all run rows)) ≡ state_rows r (status_of r m)
    left_row r p at left =
        let new = left_after r p at left in
        let taken = taken_by_row_changes (part out l) (part out m) run (part_sound out l sound) (part_sound out m later) goes row_changes in
        untold updates r (done_all run (rows_in rows)) (done_all run rows) only
        (in_part.states r ∙ ap (state_rows r) (status_gone out m r new.0 later yanks new.1 new.2))
        ∙ state_after run rows r taken.silent ∙ ap (λ b. cond b [] (of_card r rows)) (left_untaken run r p row_changes at left)
        ∙ shows.states r ∙ ap (state_rows r) (sym (left_stays r p at left))

    pub part_leads : ShowsStates (done_all updates (done_all run rows)) m
    part_leads = record {
      states = λ r. go r (place_of r l) refl;
      counts = λ target.
          ap (filter (λ (c : CountRow). is_same target c.target)) (all_same_counts updates (done_all run rows) (done_all run (rows_in rows))
          (all_same_counts run rows (rows_in rows) refl))
          ∙ in_part.counts target;
    }
      where
        by : (r : CardRef) (p : Place) → place_of r l ≡ Some p → (b : Bool) → out p.deck ≡ b
            → of_card r (done_all updates (done_all run rows)) ≡ state_rows r (status_of r m)
        by r p at true left = left_row r p at left
        by r p at false stays =
            kept_after r (λ q there. let same = ap (λ (x : Place). x.deck) (same_Some _ _ (sym there ∙ at)) in ap out same ∙ stays)

        go : (r : CardRef) (o : Option Place) → place_of r l ≡ o → of_card r (done_all updates (done_all run rows)) ≡ state_rows r (status_of r m)
        go r None e = kept_after r (λ p at. absurd (let bad = sym e ∙ at in cc))
        go r (Some p) e = by r p e (out p.deck) refl
