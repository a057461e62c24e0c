-- The active cards out of rows of cards and statuses that show a library are those of the library.
use Rattle.upd_row_store.proofs.Common.{◌≡◌, ◌+◌, ℕ, Bool, true, false, ◌||◌, cond, List, [], ◌∷◌, ◌++◌, append-nil, map, slice_index_or, refl, ap, sym, ◌∙◌}
use Rattle.upd_row_store.proofs.Common.{subst, arith, Decides-eqb, append_assoc, filter, flat_map, list_any, AllByRecursion, IsSortedBy, is_lt, card_order}
use Rattle.upd_row_store.proofs.Common.{CardRef, all_back, all_by_index, all_front, at_contained, held_found, Ident, CardView, DeckView, LibraryView}
use Rattle.upd_row_store.proofs.Common.{all_decks, name_of, ref_of, AreRising, BeginsWithItsOwn, IsOfHeld, IsSound, same_filter, same_trans, CardRow, IsSame}
use Rattle.upd_row_store.proofs.Common.{Rows, Shows, ShowsStates, card_rows, same_ref, actives_from, actives_in, behind_yanks, AreByAge, AreByPlace, age_named}
use Rattle.std.specs.Prelude.{◌==◌}
use Rattle.std.specs.List.{Contains}
use Rattle.upd_core.proofs.FoundLemmas.{status_at}
use Rattle.upd_core.specs.Actives.{ActiveCardView, ActiveDeckView, active_deck, actives_of, without_past}
use Rattle.upd_core.specs.Status.{is_active, live_targets}
use Rattle.upd_records.specs.Rows.{StateRow, state_rows}
use Rattle.upd_row_store.specs.Activating.{active_card, is_active_in, with_active}
use Rattle.upd_row_store.proofs.AssembleLemmas.{age_found, cards_in_place, idents_in_place}
use Rattle.upd_row_store.proofs.HolderLemmas.{any_same}
use Rattle.upd_row_store.proofs.KeyLemmas.{then_equal}
use Rattle.upd_row_store.proofs.RowLemmas.{row_below}
use Rattle.upd_row_store.proofs.SortLemmas.{weaker}

-- rows by card stand by card and then by any number that is the same for all
pub ordered_rows : {A : Type 0} (card : A → CardRef) (xs : List A) → IsSortedBy (λ a b. is_lt (card_order (card a) (card b))) xs
    → IsSortedBy (row_below card (λ a. 0)) xs
ordered_rows card xs up = λ k d low within.
    ap is_lt (sym (then_equal (card_order (card (slice_index_or xs (k + 1) d)) (card (slice_index_or xs k d))))) ∙ up k d low within

all_two : {A : Type 0} {P Q R : A → Type 0} (xs : List A) → ((x : A) → P x → Q x → R x) → AllByRecursion P xs → AllByRecursion Q xs → AllByRecursion R xs
all_two [] so p q = tt
all_two (x ∷ xs) so p q = (so x p.0 q.0, all_two xs so p.1 q.1)

or_false : (b : Bool) → (b || false) ≡ b
or_false true = refl
or_false false = refl

module _ (l : LibraryView) (sound : IsSound l) (states : List StateRow) where
  -- a card of a deck has its status and its age in the rows
  abbrev IsShown : ℕ → CardView → Type 0
  IsShown d c = (is_active_in states (ref_of l.idents c) ≡ is_active (live_targets l) d c)
      × ((p : ℕ) → active_card l.idents states (record { card = ref_of l.idents c; deck = d; pos = p; body = c.text }) ≡ without_past c)

  status_shown : (rows : Rows) → ShowsStates rows l → IsSame states rows.states → (d : DeckView) (c : CardView) → Contains (all_decks l) d
      → Contains d.cards c → is_active_in states (ref_of l.idents c) ≡ is_active (live_targets l) d.ident c
  status_shown rows shows same d c in_l in_d =
      let ref = ref_of l.idents c in
      let row : filter (λ r. same_ref ref r.card) rows.states ≡ record { card = ref; active = is_active (live_targets l) d.ident c } ∷ [] =
      shows.states ref ∙ ap (state_rows ref) (status_at l d c sound in_l in_d) in
      any_same (λ r. r.active) (same_filter (λ r. same_ref ref r.card) same) ∙ ap (list_any (λ r. r.active)) row ∙ or_false _

  ages_shown : (ds : List DeckView) → AllByRecursion (IsOfHeld l.idents) (flat_map (λ d. d.cards) ds)
      → AllByRecursion (λ d. AllByRecursion (λ c. age_named l.idents (name_of l.idents c.ident) ≡ c.ident) d.cards) ds
  ages_shown [] all = tt
  ages_shown (d ∷ ds) all = (
    weaker d.cards (λ c held. age_found _ _ (held_found l c.ident sound held.0)) (all_front (IsOfHeld l.idents) d.cards (flat_map (λ e. e.cards) ds) all),
    ages_shown ds (all_back (IsOfHeld l.idents) d.cards (flat_map (λ e. e.cards) ds) all),
  )

  cards_shown : (rows : Rows) → ShowsStates rows l → IsSame states rows.states
      → AllByRecursion (λ d. AllByRecursion (IsShown d.ident) d.cards) (all_decks l)
  cards_shown rows shows same =
      all_two (all_decks l)
      (λ d status age. all_two d.cards (λ c s a. (s, λ p. λ i. record { ident = a i; number = c.number; text = c.text })) status age)
      (all_by_index (all_decks l) (λ k d in_l. all_by_index {P = λ c. is_active_in states (ref_of l.idents c) ≡ is_active (live_targets l) d.ident c} d.cards
      (λ i c in_d. status_shown rows shows same d c (at_contained (all_decks l) k d in_l) (at_contained d.cards i c in_d))))
      (ages_shown (all_decks l) sound.cards)

  put_cards : (d : ActiveDeckView) (p : ℕ) (cs : List CardView) (rows : List CardRow) → AllByRecursion (IsShown d.ident) cs
      → actives_from l.idents states d (card_rows l.idents d.ident p cs ++ rows)
      ≡ actives_from l.idents states (record d { cards = d.cards ++ map without_past (filter (is_active (live_targets l) d.ident) cs) }) rows
  put_cards d p [] rows all =
      ap (λ cs. actives_from l.idents states (record { ident = d.ident; cards = cs }) rows) (sym (append-nil d.cards))
  put_cards d p (c ∷ cs) rows all =
      ap (λ b. cond b (grow (with_active l.idents states row d)) (d ∷ grow (with_active l.idents states row (record { ident = d.ident; cards = [] }))))
      ((Decides-eqb d.ident d.ident).1 refl)
      ∙ ap (λ b. grow (cond b (record d { cards = d.cards ++ active_card l.idents states row ∷ [] }) d)) all.0.0
      ∙ go (is_active (live_targets l) d.ident c) (put_cards (record d { cards = d.cards ++ without_past c ∷ [] }) (p + 1) cs rows all.1)
      (put_cards d (p + 1) cs rows all.1)
    where
      row : CardRow
      row = record { card = ref_of l.idents c; deck = d.ident; pos = p; body = c.text }

      grow : ActiveDeckView → List ActiveDeckView
      grow e = actives_from l.idents states e (card_rows l.idents d.ident (p + 1) cs ++ rows)

      with_cards : List ActiveCardView → List ActiveDeckView
      with_cards zs = actives_from l.idents states (record { ident = d.ident; cards = zs }) rows

      later : List ActiveCardView
      later = map without_past (filter (is_active (live_targets l) d.ident) cs)

      go : (b : Bool) → grow (record d { cards = d.cards ++ without_past c ∷ [] }) ≡ with_cards ((d.cards ++ without_past c ∷ []) ++ later)
          → grow d ≡ with_cards (d.cards ++ later)
          → grow (cond b (record d { cards = d.cards ++ active_card l.idents states row ∷ [] }) d)
          ≡ with_cards (d.cards ++ map without_past
          (cond b (c ∷ filter (is_active (live_targets l) d.ident) cs) (filter (is_active (live_targets l) d.ident) cs)))
      go true grown same =
          ap (λ x. grow (record d { cards = d.cards ++ x ∷ [] })) (all.0.1 p) ∙ grown ∙ ap with_cards (append_assoc d.cards (without_past c ∷ []) later)
      go false grown same = same

  abbrev deck_rows : List DeckView → List CardRow
  deck_rows ds = flat_map (λ d. card_rows l.idents d.ident 0 d.cards) ds

  put_decks : (d : ActiveDeckView) (ds : List DeckView) → AreRising (d.ident ∷ map (λ e. e.ident) ds) → AllByRecursion BeginsWithItsOwn ds
      → AllByRecursion (λ e. AllByRecursion (IsShown e.ident) e.cards) ds
      → actives_from l.idents states d (deck_rows ds) ≡ d ∷ map (active_deck (live_targets l)) ds
  put_decks d [] rising begins all = refl
  put_decks d (e ∷ ds) rising begins all =
      go e.cards refl (put_cards (record { ident = e.ident; cards = [] }) 0 e.cards (deck_rows ds) all.0)
      (put_decks (active_deck (live_targets l) e) ds rising.1 begins.1 all.1)
    where
      own : (e.ident == e.ident) ≡ true
      own = (Decides-eqb e.ident e.ident).1 refl

      other : (b : Bool) → (e.ident == d.ident) ≡ b → b ≡ false
      other true same = absurd (omega (arith, (Decides-eqb e.ident d.ident).0 same, rising.0.0))
      other false same = refl

      go : (cs : List CardView) → e.cards ≡ cs
          → actives_from l.idents states (record { ident = e.ident; cards = [] }) (deck_rows (e ∷ ds))
          ≡ actives_from l.idents states (active_deck (live_targets l) e) (deck_rows ds)
          → actives_from l.idents states (active_deck (live_targets l) e) (deck_rows ds)
          ≡ active_deck (live_targets l) e ∷ map (active_deck (live_targets l)) ds
          → actives_from l.idents states d (deck_rows (e ∷ ds)) ≡ d ∷ active_deck (live_targets l) e ∷ map (active_deck (live_targets l)) ds
      go [] none here later = absurd (subst (λ cs. BeginsWithItsOwn (record { ident = e.ident; cards = cs })) none begins.0)
      go (c ∷ cs) some here later =
          let rest = card_rows l.idents e.ident 1 cs ++ deck_rows ds in
          let row : CardRow = record { card = ref_of l.idents c; deck = e.ident; pos = 0; body = c.text } in
          let bare : ActiveDeckView = record { ident = e.ident; cards = [] } in
          let from : ActiveDeckView → List ActiveDeckView = λ x. actives_from l.idents states (with_active l.idents states row x) rest in
          let begun = ap (λ b. cond b (from bare) (bare ∷ from bare)) own in
          ap (λ zs. actives_from l.idents states d (card_rows l.idents e.ident 0 zs ++ deck_rows ds)) some
          ∙ ap (λ b. cond b (from d) (d ∷ from bare)) (other (e.ident == d.ident) refl)
          ∙ ap (λ xs. d ∷ xs) (sym begun)
          ∙ ap (λ zs. d ∷ actives_from l.idents states bare (card_rows l.idents e.ident 0 zs ++ deck_rows ds)) (sym some)
          ∙ ap (λ xs. d ∷ xs) (here ∙ later)

-- rows that are those of a sound library and of its statuses, in order
pub actives_again : (l : LibraryView) (tables : Rows) (idents : List Ident) (cards : List CardRow) (states : List StateRow) → IsSound l → Shows tables l
    → ShowsStates tables l → IsSame idents tables.idents → IsSame cards tables.cards → IsSame states tables.states → AreByAge idents → AreByPlace cards
    → behind_yanks idents (actives_in idents states cards) ≡ actives_of l
actives_again l tables idents cards states sound shows shows_states same_idents same_cards same_states by_age by_place =
    let one = idents_in_place l idents sound (same_trans same_idents shows.idents) by_age in
    let two = cards_in_place l cards sound (same_trans same_cards shows.cards) by_place in
    let all = cards_shown l sound states tables shows_states same_states in
    (λ i. behind_yanks (one i) (actives_in (one i) states (two i)))
    ∙ ap (behind_yanks l.idents) (put_cards l sound states (record { ident = 0; cards = [] }) 0 l.yanks (deck_rows l sound states l.decks) all.0
    ∙ put_decks l sound states (record { ident = 0; cards = map without_past (filter (is_active (live_targets l) 0) l.yanks) }) l.decks sound.deck_ages
    sound.firsts all.1)
