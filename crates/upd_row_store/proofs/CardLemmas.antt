-- A card of a sound library out of its own row and its entries.
use Rattle.upd_row_store.proofs.Common.{◌≡◌, ℕ, zero, suc, ◌+◌, ◌==◌, ◌&&◌, ◌||◌, Bool, true, false, cond, List, [], ◌∷◌, ◌++◌, map, Some, refl, ap, sym}
use Rattle.upd_row_store.proofs.Common.{◌∙◌, subst, Decides-eqb, same_Some, filter, flat_map, list_any, AllByRecursion, CardRef, at_contained}
use Rattle.upd_row_store.proofs.Common.{held_found, refs_apart, Ident, CardView, DeckView, LibraryView, all_decks, ref_of, AreApart, IsSound}
use Rattle.upd_row_store.proofs.Common.{all_cards, any_append, same_filter, same_of, same_trans, same_ref_is, CardRow, EntryRow, IsSame, Rows, Shows}
use Rattle.upd_row_store.proofs.Common.{card_rows, entry_rows, rows_of, same_ref, age_named, decks_in, library_of}
use Rattle.std.specs.Prelude.{slice_get}
use Rattle.std.specs.List.{find}
use Rattle.std.proofs.lemmas.List.{map-append}
use Rattle.std.specs.Option.{option_and_then}
use Rattle.upd_core.proofs.Common.{Contains}
use Rattle.upd_core.proofs.ApartLemmas.{all_at, all_mapped, all_of_contained, find_at}
use Rattle.upd_core.proofs.FoundLemmas.{card_at, card_held, card_place, cards_of_deck, in_flat, place_at}
use Rattle.upd_core.specs.Library.{card_in, cards_of, place_in, place_of}
use Rattle.upd_core.specs.Sound.{HasNoTargets, key_of}
use Rattle.upd_row_store.specs.Asked.{ShowsCard, placed_card}
use Rattle.upd_row_store.specs.Assembling.{AreEntriesByCard, card_of_row, entries_of}
use Rattle.upd_row_store.proofs.AssembleLemmas.{age_found, card_row_own, entry_row_own, one_card_row, one_entry_row, same_card_row, same_entry_row}
use Rattle.upd_row_store.proofs.HolderLemmas.{any_same}
use Rattle.upd_row_store.proofs.RestLemmas.{any_filter, apart_fewer}
use Rattle.upd_row_store.proofs.RowLemmas.{entries_again, entries_rise, of_entries, own_kept, own_rows, row_below, row_order}
use Rattle.upd_row_store.proofs.SortLemmas.{in_order, same_list}

-- ---- the card of a row

any_at : {A : Type 0} (test : A → Bool) (xs : List A) (k : ℕ) (x : A) → slice_get xs k ≡ Some x → test x ≡ true → list_any test xs ≡ true
any_at test [] k x e passes = absurd (cc)
any_at test (y ∷ xs) zero x e passes = ap (λ b. b || list_any test xs) (ap test (same_Some y x e) ∙ passes)
any_at test (y ∷ xs) (suc k) x e passes = go (test y) (any_at test xs k x e passes)
  where
    go : (b : Bool) → list_any test xs ≡ true → (b || list_any test xs) ≡ true
    go true later = refl
    go false later = later

any_kept : {A : Type 0} (keep test : A → Bool) (xs : List A) → list_any (λ x. keep x && test x) xs ≡ true → list_any test xs ≡ true
any_kept keep test [] e = e
any_kept {A} keep test (x ∷ xs) e = go (keep x) (test x) e (any_kept keep test xs)
  where
    go : (a b : Bool) → ((a && b) || list_any (λ y. keep y && test y) xs) ≡ true
        → (list_any (λ y. keep y && test y) xs ≡ true → list_any test xs ≡ true) → (b || list_any test xs) ≡ true
    go a true e later = refl
    go true false e later = later e
    go false false e later = later e

-- A row is that of a card where it is in a deck.
pub record IsOfCard (idents : List Ident) (ds : List DeckView) (row : CardRow) : Type 0 where
  pub index : ℕ
  pub deck : DeckView
  pub place : ℕ
  pub card : CardView
  pub found : slice_get ds index ≡ Some deck
  pub stands : slice_get deck.cards place ≡ Some card
  pub ref : row.card ≡ ref_of idents card
  pub age : row.deck ≡ deck.ident
  pub text : row.body ≡ card.text

module _ (idents : List Ident) (row : CardRow) where
  in_deck : (d p : ℕ) (cs : List CardView) → list_any (same_card_row row) (card_rows idents d p cs) ≡ true
      → (i : ℕ) × (c : CardView) × (slice_get cs i ≡ Some c) × (row.card ≡ ref_of idents c) × (row.deck ≡ d) × (row.body ≡ c.text)
  in_deck d p [] e = absurd (cc)
  in_deck d p (c ∷ cs) e = go (same_card_row row own) refl (in_deck d (p + 1) cs)
    where
      own : CardRow
      own = record { card = ref_of idents c; deck = d; pos = p; body = c.text }

      Found : List CardView → Type 0
      Found xs = (i : ℕ) × (x : CardView) × (slice_get xs i ≡ Some x) × (row.card ≡ ref_of idents x) × (row.deck ≡ d) × (row.body ≡ x.text)

      go : (b : Bool) → same_card_row row own ≡ b → (list_any (same_card_row row) (card_rows idents d (p + 1) cs) ≡ true → Found cs) → Found (c ∷ cs)
      go true same later =
          let is = one_card_row row own same in
          (zero, c, refl, ap (λ (r : CardRow). r.card) is, ap (λ (r : CardRow). r.deck) is, ap (λ (r : CardRow). r.body) is)
      go false other later =
          let at = later (ap (λ b. b || list_any (same_card_row row) (card_rows idents d (p + 1) cs)) (sym other) ∙ e) in
          (suc at.0, at.1, at.2, at.3, at.4, at.5)

  abbrev deck_rows : List DeckView → List CardRow
  deck_rows ds = flat_map (λ d. card_rows idents d.ident 0 d.cards) ds

  in_decks : (ds : List DeckView) → list_any (same_card_row row) (deck_rows ds) ≡ true → IsOfCard idents ds row
  in_decks [] e = absurd (cc)
  in_decks (d ∷ ds) e = go (list_any (same_card_row row) (card_rows idents d.ident 0 d.cards)) refl (in_decks ds)
    where
      go : (b : Bool) → list_any (same_card_row row) (card_rows idents d.ident 0 d.cards) ≡ b
          → (list_any (same_card_row row) (deck_rows ds) ≡ true → IsOfCard idents ds row) → IsOfCard idents (d ∷ ds) row
      go true here later =
          let at = in_deck d.ident 0 d.cards here in
          record { index = zero; deck = d; place = at.0; card = at.1; found = refl; stands = at.2; ref = at.3; age = at.4; text = at.5 }
      go false none later =
          let at = later (ap (λ b. b || list_any (same_card_row row) (deck_rows ds)) (sym none)
          ∙ sym (any_append (same_card_row row) (card_rows idents d.ident 0 d.cards) (deck_rows ds)) ∙ e) in
          record {
            index = suc at.index;
            deck = at.deck;
            place = at.place;
            card = at.card;
            found = at.found;
            stands = at.stands;
            ref = at.ref;
            age = at.age;
            text = at.text;
          }

module _ (l : LibraryView) (sound : IsSound l) (tables : Rows) (shows : Shows tables l) (card : CardRef) (row : CardRow) where
  -- what is found for a card among rows that are kept of a table
  pub row_found : (keep : CardRow → Bool) (kept : List CardRow) → IsSame kept (filter keep tables.cards)
      → find (λ r. same_ref card r.card) kept ≡ Some row → (card ≡ row.card) × IsOfCard l.idents (all_decks l) row
  row_found keep kept same e =
      let at = find_at (λ r. same_ref card r.card) kept row e in
      let among = any_at (same_card_row row) kept at.0 row at.1 (card_row_own row) in
      let shown = sym (any_same (same_card_row row) (same_trans same (same_filter keep shows.cards))) ∙ among in (
        same_ref_is card row.card at.2,
        in_decks l.idents row (all_decks l) (any_kept keep (same_card_row row) (rows_of l).cards
            (sym (any_filter keep (same_card_row row) (rows_of l).cards) ∙ shown)),
      )

module _ (l : LibraryView) (sound : IsSound l) (row : CardRow) (other : (row.deck == 0) ≡ false) (at : IsOfCard l.idents (all_decks l) row) where
  among : Contains (all_cards l) at.card
  among = in_flat (all_decks l) at.index at.deck at.place at.card at.found at.stands

  standing : Contains (all_decks l) at.deck
  standing = at_contained (all_decks l) at.index at.deck at.found

  no_yanks : 0 ≡ at.deck.ident → ⊥
  no_yanks is = let zero : (row.deck == 0) ≡ true = (Decides-eqb row.deck 0).1 (at.age ∙ sym is) in absurd (cc)

  -- it has no targets
  no_targets : at.card.targets ≡ []
  no_targets = all_at (λ c. c.targets ≡ []) at.deck.cards at.place at.card (by at.index at.found) at.stands
    where
      by : (j : ℕ) → slice_get (all_decks l) j ≡ Some at.deck → HasNoTargets at.deck
      by zero e = absurd (no_yanks (ap (λ (d : DeckView). d.ident) (same_Some _ at.deck e)))
      by (suc j) e = all_at HasNoTargets l.decks j at.deck sound.plain e

  history_again : (tables : Rows) (entries : List EntryRow) → Shows tables l → IsSame entries (filter (λ r. same_ref row.card r.card) tables.entries)
      → AreEntriesByCard entries → entries_of row.card entries ≡ at.card.history
  history_again tables entries shows same up =
      let ref = ref_of l.idents at.card in
      let rows = entry_rows ref 0 at.card.history in
      let of : (c : CardView) → List EntryRow = λ c. entry_rows (ref_of l.idents c) 0 c.history in
      let own : filter (λ r. same_ref ref r.card) (rows_of l).entries ≡ rows =
      all_of_contained (λ c. filter (λ r. same_ref (ref_of l.idents c) r.card) (rows_of l).entries ≡ of c) (all_cards l) at.card
      (own_rows (λ (r : EntryRow). r.card) (ref_of l.idents) of (λ c. of_entries (ref_of l.idents c) 0 c.history) (all_cards l) (refs_apart l sound)) among in
      let shown : IsSame entries rows =
      same_trans (subst (λ r. IsSame entries (filter (λ x. same_ref r x.card) tables.entries)) at.ref same)
      (same_trans (same_filter (λ r. same_ref ref r.card) shows.entries) (same_of _ _ own)) in
      let exact : entries ≡ rows =
      same_list (row_below (λ r. r.card) (λ r. r.ord)) same_entry_row one_entry_row entry_row_own entries rows
      (in_order (row_below (λ r. r.card) (λ r. r.ord)) (row_order (λ r. r.card) (λ r. r.ord)) entries up) (entries_rise ref 0 at.card.history) shown in
      (λ i. entries_of (at.ref i) (exact i))
      ∙ ap (map (λ (r : EntryRow). r.entry))
      (own_kept (λ (r : EntryRow). r.card) (ref_of l.idents) of (λ c. of_entries (ref_of l.idents c) 0 c.history) ref rows (of_entries ref 0 at.card.history))
      ∙ entries_again ref 0 at.card.history

  -- the deck that has it alone
  abbrev alone : DeckView
  alone = record { ident = at.deck.ident; cards = at.card ∷ [] }

  pub deck_again : (tables : Rows) (entries : List EntryRow) → Shows tables l
      → IsSame entries (filter (λ r. same_ref row.card r.card) tables.entries) → AreEntriesByCard entries
      → decks_in l.idents entries [] (row ∷ []) ≡ record { ident = 0; cards = [] } ∷ alone ∷ []
  deck_again tables entries shows same up =
      let ident : age_named l.idents row.card.name ≡ at.card.ident =
      ap (λ (r : CardRef). age_named l.idents r.name) at.ref
      ∙ age_found _ _ (held_found l at.card.ident sound (card_held l at.card sound among)) in
      let own : card_of_row l.idents entries [] row ≡ at.card = λ i. record {
        ident = ident i;
        number = ap (λ (r : CardRef). r.number) at.ref i;
        text = at.text i;
        history = history_again tables entries shows same up i;
        targets = sym no_targets i;
      } in
      let made : CardView = card_of_row l.idents entries [] row in
      ap (λ b. cond b (record { ident = 0; cards = made ∷ [] } ∷ [])
      (record { ident = 0; cards = [] } ∷ record { ident = row.deck; cards = made ∷ [] } ∷ [])) other
      ∙ (λ i. record { ident = 0; cards = [] } ∷ record { ident = at.age i; cards = own i ∷ [] } ∷ [])

  there : placed_card (ref_of l.idents at.card) l ≡ Some (at.deck.ident, at.card)
  there = rw (place_at l at.deck at.place at.card sound standing at.stands, card_at l at.deck at.place at.card sound standing at.stands) refl

  keys_apart : AreApart (map key_of (l.yanks ++ at.card ∷ []))
  keys_apart =
      let whole = subst AreApart (map-append key_of l.yanks (flat_map (λ d. d.cards) l.decks)) sound.keys in
      subst AreApart (sym (map-append key_of l.yanks (at.card ∷ [])))
      (apart_fewer (map key_of l.yanks) (map key_of (flat_map (λ d. d.cards) l.decks)) (key_of at.card ∷ [])
      (λ P all. (by P all at.index at.found, tt)) (tt, tt) whole)
    where
      by : (P : ℕ × ℕ → Type 0) → AllByRecursion P (map key_of (flat_map (λ d. d.cards) l.decks)) → (j : ℕ) → slice_get (all_decks l) j ≡ Some at.deck
          → P (key_of at.card)
      by P all zero e = absurd (no_yanks (ap (λ (d : DeckView). d.ident) (same_Some _ at.deck e)))
      by P all (suc j) e =
          all_of_contained (λ c. P (key_of c)) (flat_map (λ d. d.cards) l.decks) at.card (all_mapped P key_of _ all)
          (in_flat l.decks j at.deck at.place at.card e at.stands)

  abbrev lone : LibraryView → LibraryView
  lone found = record { idents = l.idents; decks = alone ∷ []; yanks = l.yanks; rest = found.rest }

  -- a library that has it alone shows it
  pub shows_card : (card : CardRef) (found : LibraryView) → card ≡ row.card → found.idents ≡ l.idents → found.yanks ≡ l.yanks → found.decks ≡ alone ∷ []
      → ShowsCard card l found
  shows_card card found is idents yanks decks = record {
    idents = idents;
    yanks = yanks;
    same = (λ i. placed_card ((is ∙ at.ref) i) (record { idents = idents i; decks = decks i; yanks = yanks i; rest = found.rest }))
        ∙ here ∙ sym (ap (λ r. placed_card r l) (is ∙ at.ref) ∙ there);
  }
    where
      here : placed_card (ref_of l.idents at.card) (lone found) ≡ Some (at.deck.ident, at.card)
      here =
          let place : place_of (ref_of l.idents at.card) (lone found) ≡ Some (record { deck = at.deck.ident; index = 0 }) =
          ap (option_and_then (λ age. place_in (all_decks (lone found)) age at.card.number))
          (held_found l at.card.ident sound (card_held l at.card sound among))
          ∙ card_place (all_decks (lone found)) 1 alone 0 at.card keys_apart refl refl in
          let cards : cards_of at.deck.ident (lone found) ≡ at.card ∷ [] = cards_of_deck (lone found) 1 alone ((no_yanks, tt), (tt, tt)) refl in
          let stands : card_in (record { deck = at.deck.ident; index = 0 }) (lone found) ≡ Some at.card = ap (λ cs. slice_get cs 0) cards in
          rw (place, stands) refl

pub kept_idents : (idents : List Ident) (ds : List DeckView) → (library_of idents ds).idents ≡ idents
kept_idents idents [] = refl
kept_idents idents (d ∷ ds) = refl
