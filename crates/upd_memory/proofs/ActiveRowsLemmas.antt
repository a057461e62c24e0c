-- The active cards of decks in memory are those of all their rows, in order.
use Rattle.upd_memory.proofs.Common.{◌≡◌, ℕ, zero, suc, ◌+◌, ◌<◌, ◌≤◌, ◌==◌, nat_le, Bool, true, false, cond, List, [], ◌∷◌, ◌++◌, length, map, get_or, Some}
use Rattle.upd_memory.proofs.Common.{Result, Ok, Err, refl, ap, sym, ◌∙◌, subst, arith, ◌||◌, BTreeMap, IsOrdered, get, tied_itself, AllByRecursion, filter}
use Rattle.upd_memory.proofs.Common.{flat_map, list_all, list_any, IsStrictlySortedBy, keys_of, option_map_or, is_eq, nat_cmp, ordering_reverse, result_ok}
use Rattle.upd_memory.proofs.Common.{Less, Equal, Greater, Vec, and_parts, Decides-eqb, nat_tests, sorted_head, sorted_tail, by_name, CardRef, nat_cmp_total}
use Rattle.upd_memory.proofs.Common.{recursion_from_All, All-found, Ident, CardRow, IsSame, Rows, StateRow, same_ref, AreInOrder, rise_from, shown_decks}
use Rattle.upd_memory.proofs.Common.{with_rows, state_row, AreCards}
use Rattle.std.proofs.Common.{add-one}
use Rattle.std.specs.Cmp.{nat_cmp_is}
use Rattle.std.specs.List.{HoldsAt}
use Rattle.std.specs.List.Sorted.{IsBinarySearchResult, IsNonDecreasingBy, IsPartitionPoint, IsSortedBy}
use Rattle.std.specs.Option.{MatchOption}
use Rattle.std.specs.Ordering.{is_lt, ordering_index, ordering_then}
use Rattle.std.proofs.lemmas.List.Sorted.{searchable_from_sorted}
use Rattle.upd_core.specs.Actives.{ActiveDeckView, ActivesView, actives_of}
use Rattle.upd_core.specs.Library.{LibraryView}
use Rattle.upd_core.specs.Sound.{IsSound}
use Rattle.upd_records.specs.Rows.{Shows, ShowsStates}
use Rattle.upd_row_store.proofs.ActiveLemmas.{actives_again}
use Rattle.upd_row_store.specs.Activating.{active_card, actives_from, actives_in, behind_yanks, is_active_in, with_active}
use Rattle.upd_row_store.specs.Assembling.{AreByAge, AreByPlace}
use Rattle.upd_memory.specs.ActiveRows.{shown_deck}
use Rattle.upd_memory.proofs.MapRowsLemmas.{own_key}
use Rattle.upd_memory.proofs.LoadLemmas.{cards_all}
use Rattle.upd_memory.proofs.NameOrderLemmas.{refs_exact, refs_total, same_by_order, turned}

-- ---- statuses

above_at : (c : CardRef) (es : List (CardRef × Bool)) → AllByRecursion (λ y. by_name c y ≡ Less) (keys_of es) → (k : ℕ) (d : CardRef × Bool)
    → k < length es → by_name c (get_or es k d).0 ≡ Less
above_at c [] above k d less = absurd (omega arith)
above_at c (e ∷ es) above zero d less = above.0
above_at c (e ∷ es) above (suc k) d less = above_at c es above.1 k d (omega arith)

next_above : (es : List (CardRef × Bool)) → AreInOrder es → (k : ℕ) (d : CardRef × Bool) → suc k < length es
    → by_name (get_or es k d).0 (get_or es (suc k) d).0 ≡ Less
next_above [] up k d less = absurd (omega arith)
next_above (e ∷ es) up zero d less = above_at e.0 es (sorted_head by_name e.0 (keys_of es) up) 0 d (omega arith)
next_above (e ∷ es) up (suc k) d less = next_above es (sorted_tail by_name e.0 (keys_of es) up) k d (omega arith)

-- no pair in order is below the one before it
pub pairs_sorted : (es : List (CardRef × Bool)) → AreInOrder es → IsSortedBy (λ a b. is_lt (by_name a.0 b.0)) es
pairs_sorted es up = λ k d low within.
    ap (λ n. is_lt (by_name (get_or es n d).0 (get_or es k d).0)) (add-one k)
    ∙ ap is_lt (refs_total.antisymm (get_or es (suc k) d).0 (get_or es k d).0 ∙ ap ordering_reverse (next_above es up k d (omega arith)))

-- pairs in order rise towards each card
rise_to : (c : CardRef) (es : List (CardRef × Bool)) → AreInOrder es → IsNonDecreasingBy (λ e. ordering_index (by_name e.0 c)) es
rise_to c es up = searchable_from_sorted refs_total (λ e. e.0) es c (pairs_sorted es up)

-- whether a card is active by pairs
abbrev is_active_by : List (CardRef × Bool) → CardRef → Bool
is_active_by es card = is_active_in (map state_row es) card

other_first : (c : CardRef) (e : CardRef × Bool) (es : List (CardRef × Bool)) → same_ref c e.0 ≡ false
    → is_active_by (e ∷ es) c ≡ is_active_by es c
other_first c e es other =
    ap (λ b. list_any (λ r. r.active) (cond b (state_row e ∷ filter (λ r. same_ref c r.card) (map state_row es)) (filter (λ r. same_ref c r.card)
    (map state_row es)))) other

-- a card is not active where it has no pair
pub none_active : (c : CardRef) (es : List (CardRef × Bool)) → list_any (λ p. same_ref c p.0) es ≡ false → is_active_by es c ≡ false
none_active c [] none = refl
none_active c (e ∷ es) none = go (same_ref c e.0) refl (none_active c es)
  where
    go : (b : Bool) → same_ref c e.0 ≡ b → (list_any (λ p. same_ref c p.0) es ≡ false → is_active_by es c ≡ false)
        → is_active_by (e ∷ es) c ≡ false
    go true same later = absurd (let hit : true ≡ false = ap (λ b. b || list_any (λ p. same_ref c p.0) es) (sym same) ∙ none in cc)
    go false other later = other_first c e es other ∙ later (ap (λ b. b || list_any (λ p. same_ref c p.0) es) (sym other) ∙ none)

-- a card that differs from that of each pair has none
none_stands : (c : CardRef) (es : List (CardRef × Bool)) → ((k : ℕ) (d : CardRef × Bool) → k < length es → same_ref c (get_or es k d).0 ≡ false)
    → list_any (λ p. same_ref c p.0) es ≡ false
none_stands c [] others = refl
none_stands c (e ∷ es) others =
    ap (λ b. b || list_any (λ p. same_ref c p.0) es) (others 0 e (omega arith)) ∙ none_stands c es (λ k d less. others (suc k) d (omega arith))

less_apart : (a b : CardRef) → by_name a b ≡ Less → same_ref b a ≡ false
less_apart a b less = sym (turned a b) ∙ ap is_eq less

greater_apart : (a b : CardRef) → by_name a b ≡ Greater → same_ref b a ≡ false
greater_apart a b more = sym (turned a b) ∙ ap is_eq more

-- a search by halves that ends between the cards below and those above
none_between : (c : CardRef) (es : List (CardRef × Bool)) (i : ℕ)
    → IsPartitionPoint (λ e. by_name e.0 c ≡ Less) (λ e. by_name e.0 c ≡ Greater) es i
    → list_any (λ p. same_ref c p.0) es ≡ false
none_between c es i parted = none_stands c es (λ k d less. go k d less (nat_le i k) refl)
  where
    go : (k : ℕ) (d : CardRef × Bool) → k < length es → (t : Bool) → nat_le i k ≡ t → same_ref c (get_or es k d).0 ≡ false
    go k d less true behind = greater_apart (get_or es k d).0 c (parted.1 k d (grind (arith, nat_tests)) less)
    go k d less false before = less_apart (get_or es k d).0 c (parted.0 k d (omega arith) (grind (arith, nat_tests)))

-- what a search by halves finds
pub searched : (c : CardRef) (es : List (CardRef × Bool)) (r : Result ℕ ℕ) → AreInOrder es → IsBinarySearchResult (λ e. by_name e.0 c) es r
    → MatchOption (result_ok r) (list_any (λ p. same_ref c p.0) es ≡ false) (HoldsAt (λ p. p.0 ≡ c) es)
searched c es (Ok i) up found = λ d. refs_exact (get_or es i d).0 c (found d)
searched c es (Err i) up parted = none_between c es i (parted (rise_to c es up))

-- a card that stands first of pairs in order
first_active : (c : CardRef) (e : CardRef × Bool) (es : List (CardRef × Bool)) → AreInOrder (e ∷ es) → e.0 ≡ c → is_active_by (e ∷ es) c ≡ e.1
first_active c e es up is =
    ap (λ b. list_any (λ r. r.active) (cond b (state_row e ∷ filter (λ r. same_ref c r.card) (map state_row es)) (filter (λ r. same_ref c r.card)
    (map state_row es))))
    (same_by_order c e.0 ∙ ap (λ x. is_eq (by_name c x)) is ∙ ap is_eq (tied_itself refs_total c))
    ∙ ap (λ b. e.1 || b) (none_active c es (none_stands c es (λ k d less.
    ap (λ x. same_ref x (get_or es k d).0) (sym is) ∙ same_by_order e.0 (get_or es k d).0
    ∙ ap is_eq (above_at e.0 es (sorted_head by_name e.0 (keys_of es) up) k d less))))
    ∙ or_nothing e.1
  where
    or_nothing : (b : Bool) → (b || false) ≡ b
    or_nothing true = refl
    or_nothing false = refl

-- a card that stands at a place of pairs in order is active where its pair says so
pub active_at : (c : CardRef) (es : List (CardRef × Bool)) (i : ℕ) (d : CardRef × Bool) → AreInOrder es → i < length es → (get_or es i d).0 ≡ c
    → is_active_by es c ≡ (get_or es i d).1
active_at c [] i d up less is = absurd (omega arith)
active_at c (e ∷ es) zero d up less is = first_active c e es up is
active_at c (e ∷ es) (suc i) d up less is =
    other_first c e es (less_apart e.0 c (ap (by_name e.0) (sym is)
    ∙ above_at e.0 es (sorted_head by_name e.0 (keys_of es) up) i d (omega arith)))
    ∙ active_at c es i d (sorted_tail by_name e.0 (keys_of es) up) (omega arith) is

-- ---- decks

less_of : (a b : ℕ) → nat_cmp a b ≡ Less → a < b
less_of a b e = go (nat_le b a) refl
  where
    go : (t : Bool) → nat_le b a ≡ t → a < b
    go false miss = grind (arith, nat_tests)
    go true hit = absurd (two (a == b) refl)
      where
        two : (s : Bool) → (a == b) ≡ s → ⊥
        two true same = let is : nat_cmp a b ≡ Equal = sym (nat_cmp_is a b Equal ((Decides-eqb a b).0 same)) in let clash : Less ≡ Equal = sym e
            ∙ is in cc
        two false other = let above : b < a = grind (arith, nat_tests) in
            let is : nat_cmp a b ≡ Greater = sym (nat_cmp_is a b Greater above) in let clash : Less ≡ Greater = sym e ∙ is in cc

keys_above : {V : Type 0} (n : ℕ) (es : List (ℕ × V)) → AllByRecursion (λ y. nat_cmp n y ≡ Less) (keys_of es) → AllByRecursion (λ e. n < e.0) es
keys_above n [] above = tt
keys_above n (e ∷ es) above = (less_of n e.0 above.0, keys_above n es above.1)

later_above : {V : Type 0} (n m : ℕ) (es : List (ℕ × V)) → n ≤ m → AllByRecursion (λ e. m < e.0) es → AllByRecursion (λ e. n < e.0) es
later_above n m [] le above = tt
later_above n m (e ∷ es) le above = (omega (arith, le, above.0), later_above n m es le above.1)

module _ (idents : List Ident) (states : List StateRow) where
  same_ident : (d : ActiveDeckView) (r : CardRow) → (with_active idents states r d).ident ≡ d.ident
  same_ident d r = go (is_active_in states r.card)
    where
      go : (b : Bool) → (cond b (record d { cards = d.cards ++ active_card idents states r ∷ [] }) d).ident ≡ d.ident
      go true = refl
      go false = refl

  same_deck : (d : ActiveDeckView) (rows : List CardRow) → (with_rows idents states d rows).ident ≡ d.ident
  same_deck d [] = refl
  same_deck d (r ∷ rows) = same_deck (with_active idents states r d) rows ∙ same_ident d r

  -- rows of the deck that is under way
  own_rows : (d : ActiveDeckView) (rows more : List CardRow) → AllByRecursion (λ r. r.deck ≡ d.ident) rows
      → actives_from idents states d (rows ++ more) ≡ actives_from idents states (with_rows idents states d rows) more
  own_rows d [] more own = refl
  own_rows d (r ∷ rows) more own =
      ap (λ b. cond b (actives_from idents states (with_active idents states r d) (rows ++ more))
      (d ∷ actives_from idents states (with_active idents states r (record { ident = r.deck; cards = [] })) (rows ++ more)))
      ((Decides-eqb r.deck d.ident).1 own.0)
      ∙ own_rows (with_active idents states r d) rows more (subst (λ n. AllByRecursion (λ x. x.deck ≡ n) rows) (sym (same_ident d r)) own.1)

  module _ {Z : Type 0} where
    -- behind a deck come the decks of higher ages
    later_decks : (d : ActiveDeckView) (es : List (ℕ × Vec CardRow Z)) → AllByRecursion (λ e. d.ident < e.0) es
        → IsStrictlySortedBy nat_cmp (keys_of es)
        → AllByRecursion (λ e. AllByRecursion (λ r. r.deck ≡ e.0) e.1.items) es
        → actives_from idents states d (flat_map (λ e. e.1.items) es) ≡ d ∷ shown_decks idents states es
    later_decks d [] above up own = refl
    later_decks d (e ∷ es) above up own =
        go e.1.items refl own.0 (later_decks d es above.1 (sorted_tail nat_cmp e.0 (keys_of es) up) own.1)
        (λ other same. later_decks other es (subst (λ n. AllByRecursion (λ f. n < f.0) es) (sym same)
        (keys_above e.0 es (sorted_head nat_cmp e.0 (keys_of es) up))) (sorted_tail nat_cmp e.0 (keys_of es) up) own.1)
      where
        some_age : (e.0 == 0) ≡ false
        some_age = let positive : d.ident < e.0 = above.0 in grind (arith, nat_tests)

        go : (rows : List CardRow) → e.1.items ≡ rows → AllByRecursion (λ r. r.deck ≡ e.0) e.1.items
            → actives_from idents states d (flat_map (λ f. f.1.items) es) ≡ d ∷ shown_decks idents states es
            → ((other : ActiveDeckView) → other.ident ≡ e.0
            → actives_from idents states other (flat_map (λ f. f.1.items) es) ≡ other ∷ shown_decks idents states es)
            → actives_from idents states d (e.1.items ++ flat_map (λ f. f.1.items) es)
            ≡ d ∷ (shown_deck idents states e.0 e.1.items ++ shown_decks idents states es)
        go [] is own here later =
            ap (λ rows. actives_from idents states d (rows ++ flat_map (λ f. f.1.items) es)) is ∙ here
            ∙ sym (ap (λ b. d ∷ (cond b [] (with_rows idents states (record { ident = e.0; cards = [] }) e.1.items ∷ [])
            ++ shown_decks idents states es))
            (ap (λ rows. (e.0 == 0) || (length rows == 0)) is ∙ or_true (e.0 == 0)))
          where
            or_true : (b : Bool) → (b || true) ≡ true
            or_true true = refl
            or_true false = refl
        go (r ∷ rows) is own here later =
            let all : AllByRecursion (λ x. x.deck ≡ e.0) (r ∷ rows) = subst (AllByRecursion (λ x. x.deck ≡ e.0)) is own in
            let bare : ActiveDeckView = record { ident = e.0; cards = [] } in
            let other : (r.deck == d.ident) ≡ false = (let same = all.0 in let above_it = above.0 in grind (arith, nat_tests)) in
            ap (λ xs. actives_from idents states d (xs ++ flat_map (λ f. f.1.items) es)) is
            ∙ ap (λ b. cond b (actives_from idents states (with_active idents states r d) (rows ++ flat_map (λ f. f.1.items) es))
            (d ∷ actives_from idents states (with_active idents states r (record { ident = r.deck; cards = [] })) (rows
            ++ flat_map (λ f. f.1.items) es))) other
            ∙ ap (λ n. d ∷ actives_from idents states (with_active idents states r (record { ident = n; cards = [] })) (rows
            ++ flat_map (λ f. f.1.items) es)) all.0
            ∙ ap (λ xs. d ∷ xs) (own_rows (with_active idents states r bare) rows (flat_map (λ f. f.1.items) es)
            (subst (λ n. AllByRecursion (λ x. x.deck ≡ n) rows) (sym (same_ident bare r)) all.1)
            ∙ later (with_rows idents states bare (r ∷ rows)) (same_deck bare (r ∷ rows)))
            ∙ sym (ap (λ b. d ∷ (cond b [] (with_rows idents states bare e.1.items ∷ []) ++ shown_decks idents states es))
            (ap (λ b. b || (length e.1.items == 0)) some_age ∙ ap (λ xs. length xs == 0) is ∙ not_none)
            ∙ ap (λ xs. d ∷ (with_rows idents states bare xs ∷ shown_decks idents states es)) is)
          where
            not_none : (length (r ∷ rows) == 0) ≡ false
            not_none = grind (arith, nat_tests)

    -- all decks, `YANK$$$` in front where it has cards
    pub decks_shown : (es : List (ℕ × Vec CardRow Z)) → IsStrictlySortedBy nat_cmp (keys_of es)
        → AllByRecursion (λ e. AllByRecursion (λ r. r.deck ≡ e.0) e.1.items) es
        → behind_yanks idents (actives_in idents states (flat_map (λ e. e.1.items) es))
        ≡ record { idents = idents; decks = shown_decks idents states es }
    decks_shown [] up own = refl
    decks_shown (e ∷ es) up own = go (e.0 == 0) refl
      where
        above : AllByRecursion (λ f. e.0 < f.0) es
        above = keys_above e.0 es (sorted_head nat_cmp e.0 (keys_of es) up)

        go : (b : Bool) → (e.0 == 0) ≡ b → behind_yanks idents (actives_in idents states (e.1.items ++ flat_map (λ f. f.1.items) es))
            ≡ record { idents = idents; decks = shown_deck idents states e.0 e.1.items ++ shown_decks idents states es }
        go true is =
            let zero_age : e.0 ≡ 0 = (Decides-eqb e.0 0).0 is in
            let yanks = with_rows idents states (record { ident = 0; cards = [] }) e.1.items in
            ap (behind_yanks idents) (own_rows (record { ident = 0; cards = [] }) e.1.items (flat_map (λ f. f.1.items) es)
            (subst (λ n. AllByRecursion (λ r. r.deck ≡ n) e.1.items) zero_age own.0)
            ∙ later_decks yanks es (subst (λ n. AllByRecursion (λ f. n < f.0) es) (zero_age
            ∙ sym (same_deck (record { ident = 0; cards = [] }) e.1.items)) above)
            (sorted_tail nat_cmp e.0 (keys_of es) up) own.1)
            ∙ sym (ap (λ b. record {
              idents = idents;
              decks = cond (b || (length e.1.items == 0)) []
                  (with_rows idents states (record { ident = e.0; cards = [] }) e.1.items ∷ []) ++ shown_decks idents states es;
            }) is)
        go false is =
            ap (behind_yanks idents) (later_decks (record { ident = 0; cards = [] }) (e ∷ es)
            (let first : 0 < e.0 = grind (arith, nat_tests) in (first, later_above 0 e.0 es (omega arith) above)) up own)

-- ---- places

abbrev is_behind : CardRow → CardRow → Bool
is_behind b a = is_lt (ordering_then (nat_cmp b.deck a.deck) (nat_cmp b.pos a.pos))

not_lt : (a b : ℕ) → b ≤ a → is_lt (nat_cmp a b) ≡ false
not_lt a b le = go (a == b) refl
  where
    go : (s : Bool) → (a == b) ≡ s → is_lt (nat_cmp a b) ≡ false
    go true same = ap is_lt (sym (nat_cmp_is a b Equal ((Decides-eqb a b).0 same)))
    go false other = let above : b < a = grind (arith, nat_tests) in ap is_lt (sym (nat_cmp_is a b Greater above))

in_one_deck : (a b : CardRow) → b.deck ≡ a.deck → a.pos ≤ b.pos → is_behind b a ≡ false
in_one_deck a b same le =
    ap (λ o. is_lt (ordering_then o (nat_cmp b.pos a.pos))) (sym (nat_cmp_is b.deck a.deck Equal same)) ∙ not_lt b.pos a.pos le

in_later_deck : (a b : CardRow) → a.deck < b.deck → is_behind b a ≡ false
in_later_deck a b less = ap (λ o. is_lt (ordering_then o (nat_cmp b.pos a.pos))) (sym (nat_cmp_is b.deck a.deck Greater less))

-- no row is in front of the one before it
abbrev Steps : CardRow → List CardRow → Type 0
Steps a [] = Unit {0}
Steps a (b ∷ rows) = (is_behind b a ≡ false) × Steps b rows

abbrev Stand : List CardRow → Type 0
Stand [] = Unit {0}
Stand (a ∷ rows) = Steps a rows

at_step : (a : CardRow) (rows : List CardRow) → Steps a rows → (k : ℕ) (d : CardRow) → k + 1 < length (a ∷ rows)
    → is_behind (get_or (a ∷ rows) (k + 1) d) (get_or (a ∷ rows) k d) ≡ false
at_step a [] steps k d within = absurd (grind (arith, within))
at_step a (b ∷ rows) steps zero d within = steps.0
at_step a (b ∷ rows) steps (suc k) d within =
    let next : suc (k + 1) ≡ suc k + 1 = omega arith in
    subst (λ n. is_behind (get_or (a ∷ b ∷ rows) n d) (get_or (b ∷ rows) k d) ≡ false) next
    (at_step b rows steps.1 k d (grind (arith, within)))

by_steps : (rows : List CardRow) → Stand rows → AreByPlace rows
by_steps [] stand = λ k d low within. absurd (grind (arith, within))
by_steps (a ∷ rows) stand = λ k d low within. at_step a rows stand k d within

in_deck : (a : CardRow) (rows more : List CardRow) → AllByRecursion (λ r. r.deck ≡ a.deck) rows → rise_from a.pos rows ≡ true
    → ((last : CardRow) → last.deck ≡ a.deck → Steps last more) → Steps a (rows ++ more)
in_deck a [] more own rise after = after a refl
in_deck a (r ∷ rows) more own rise after =
    let up = and_parts (nat_le a.pos r.pos) (rise_from r.pos rows) rise in
    let le : a.pos ≤ r.pos = (let first = up.0 in grind (arith, nat_tests)) in (
      in_one_deck a r own.0 le,
      in_deck r rows more (subst (λ n. AllByRecursion (λ x. x.deck ≡ n) rows) (sym own.0) own.1) up.1 (λ last same. after last (same ∙ own.0)),
    )

-- what a test keeps passes it
kept_pass : (P : CardRow → Type 0) (test : CardRow → Bool) → ((r : CardRow) → test r ≡ true → P r) → (xs : List CardRow)
    → AllByRecursion P (filter test xs)
kept_pass P test so [] = tt
kept_pass P test so (x ∷ xs) = go (test x) refl (kept_pass P test so xs)
  where
    go : (b : Bool) → test x ≡ b → AllByRecursion P (filter test xs) → AllByRecursion P (cond b (x ∷ filter test xs) (filter test xs))
    go true e rest = (so x e, rest)
    go false e rest = rest

module _ {Z : Type 0} where
  between : (a : CardRow) (es : List (ℕ × Vec CardRow Z)) → AllByRecursion (λ e. a.deck < e.0) es → IsStrictlySortedBy nat_cmp (keys_of es)
      → AllByRecursion (λ e. AllByRecursion (λ r. r.deck ≡ e.0) e.1.items) es → AllByRecursion (λ e. rise_from 0 e.1.items ≡ true) es
      → Steps a (flat_map (λ e. e.1.items) es)
  between a [] above up own rise = tt
  between a (e ∷ es) above up own rise =
      go e.1.items refl (between a es above.1 (sorted_tail nat_cmp e.0 (keys_of es) up) own.1 rise.1)
      (λ last same. between last es (subst (λ n. AllByRecursion (λ f. n < f.0) es) (sym same)
      (keys_above e.0 es (sorted_head nat_cmp e.0 (keys_of es) up))) (sorted_tail nat_cmp e.0 (keys_of es) up) own.1 rise.1)
    where
      go : (rows : List CardRow) → e.1.items ≡ rows → Steps a (flat_map (λ f. f.1.items) es)
          → ((last : CardRow) → last.deck ≡ e.0 → Steps last (flat_map (λ f. f.1.items) es))
          → Steps a (e.1.items ++ flat_map (λ f. f.1.items) es)
      go [] is here after = subst (λ rows. Steps a (rows ++ flat_map (λ f. f.1.items) es)) (sym is) here
      go (r ∷ rows) is here after =
          let all : AllByRecursion (λ x. x.deck ≡ e.0) (r ∷ rows) = subst (AllByRecursion (λ x. x.deck ≡ e.0)) is own.0 in
          let up_all = and_parts (nat_le 0 r.pos) (rise_from r.pos rows) (ap (rise_from 0) (sym is) ∙ rise.0) in
          let less : a.deck < r.deck = (let same = all.0 in let first = above.0 in grind arith) in
          subst (λ xs. Steps a (xs ++ flat_map (λ f. f.1.items) es)) (sym is) (
            in_later_deck a r less,
            in_deck r rows (flat_map (λ f. f.1.items) es) (subst (λ n. AllByRecursion (λ x. x.deck ≡ n) rows) (sym all.0) all.1) up_all.1
                (λ last same. after last (same ∙ all.0)),
          )

  stand_flat : (es : List (ℕ × Vec CardRow Z)) → IsStrictlySortedBy nat_cmp (keys_of es)
      → AllByRecursion (λ e. AllByRecursion (λ r. r.deck ≡ e.0) e.1.items) es → AllByRecursion (λ e. rise_from 0 e.1.items ≡ true) es
      → Stand (flat_map (λ e. e.1.items) es)
  stand_flat [] up own rise = tt
  stand_flat (e ∷ es) up own rise =
      go e.1.items refl (stand_flat es (sorted_tail nat_cmp e.0 (keys_of es) up) own.1 rise.1)
      (λ last same. between last es (subst (λ n. AllByRecursion (λ f. n < f.0) es) (sym same)
      (keys_above e.0 es (sorted_head nat_cmp e.0 (keys_of es) up))) (sorted_tail nat_cmp e.0 (keys_of es) up) own.1 rise.1)
    where
      go : (rows : List CardRow) → e.1.items ≡ rows → Stand (flat_map (λ f. f.1.items) es)
          → ((last : CardRow) → last.deck ≡ e.0 → Steps last (flat_map (λ f. f.1.items) es))
          → Stand (e.1.items ++ flat_map (λ f. f.1.items) es)
      go [] is here after = subst (λ rows. Stand (rows ++ flat_map (λ f. f.1.items) es)) (sym is) here
      go (r ∷ rows) is here after =
          let all : AllByRecursion (λ x. x.deck ≡ e.0) (r ∷ rows) = subst (AllByRecursion (λ x. x.deck ≡ e.0)) is own.0 in
          let up_all = and_parts (nat_le 0 r.pos) (rise_from r.pos rows) (ap (rise_from 0) (sym is) ∙ rise.0) in
          subst (λ xs. Stand (xs ++ flat_map (λ f. f.1.items) es)) (sym is)
          (in_deck r rows (flat_map (λ f. f.1.items) es) (subst (λ n. AllByRecursion (λ x. x.deck ≡ n) rows) (sym all.0) all.1) up_all.1
          (λ last same. after last (same ∙ all.0)))

  all_rise : (es : List (ℕ × Vec CardRow Z)) → list_all (λ e. rise_from 0 e.1.items) es ≡ true → AllByRecursion (λ e. rise_from 0 e.1.items ≡ true) es
  all_rise [] e = tt
  all_rise (f ∷ es) e = let two = and_parts (rise_from 0 f.1.items) (list_all (λ g. rise_from 0 g.1.items) es) e in (two.0, all_rise es two.1)

  all_own : (decks : BTreeMap ℕ (Vec CardRow Z)) (rows : List CardRow) → AreCards decks rows → (es : List (ℕ × Vec CardRow Z))
      → AllByRecursion (λ e. get nat_cmp decks e.0 ≡ Some e.1) es → AllByRecursion (λ e. AllByRecursion (λ r. r.deck ≡ e.0) e.1.items) es
  all_own decks rows are [] found = tt
  all_own decks rows are (e ∷ es) found = (
    subst (AllByRecursion (λ r. r.deck ≡ e.0)) (own_key (λ r. r.deck == e.0) e.1.items rows
        (subst (λ o. IsSame (option_map_or (λ v. v.items) o []) (filter (λ r. r.deck == e.0) rows)) found.0 (are e.0)))
        (kept_pass (λ r. r.deck ≡ e.0) (λ r. r.deck == e.0) (λ r hit. (Decides-eqb r.deck e.0).0 hit) e.1.items),
    all_own decks rows are es found.1,
  )

  own_decks : (decks : BTreeMap ℕ (Vec CardRow Z)) (rows : List CardRow) → IsOrdered nat_cmp decks → AreCards decks rows
      → AllByRecursion (λ e. AllByRecursion (λ r. r.deck ≡ e.0) e.1.items) decks.entries
  own_decks decks rows up are = all_own decks rows are decks.entries (recursion_from_All _ _ (All-found nat_cmp_total decks up))

-- the active cards of decks whose cards are by place are those of the library
pub actives_shown : {Z : Type 0} (decks : BTreeMap ℕ (Vec CardRow Z)) (idents : List Ident) (states : List StateRow) (tables : Rows) (l : LibraryView)
    → IsOrdered nat_cmp decks → AreCards decks tables.cards → list_all (λ e. rise_from 0 e.1.items) decks.entries ≡ true
    → IsSame idents tables.idents → AreByAge idents → IsSame states tables.states → IsSound l → Shows tables l → ShowsStates tables l
    → (let found : ActivesView = record { idents = idents; decks = shown_decks idents states decks.entries } in found) ≡ actives_of l
actives_shown decks idents states tables l up are rise same_idents by_age same_states sound shows shown =
    let own = own_decks decks tables.cards up are in
    sym (decks_shown idents states decks.entries up own)
    ∙ actives_again l tables idents (flat_map (λ e. e.1.items) decks.entries) states sound shows shown same_idents
    (cards_all decks tables.cards up are)
    same_states by_age (by_steps (flat_map (λ e. e.1.items) decks.entries) (stand_flat decks.entries up own (all_rise decks.entries rise)))
