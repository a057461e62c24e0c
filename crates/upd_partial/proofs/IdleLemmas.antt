-- Decks that a plain run doesn't need are idle in its status update: no card of them is affected, and the run deletes no card.
use Rattle.upd_partial.proofs.Common.{◌≡◌, ℕ, zero, suc, ◌<◌, Bool, true, false, not, ◌&&◌, ◌||◌, cond, List, [], ◌∷◌, map, Option, Some, None, Result, Ok}
use Rattle.upd_partial.proofs.Common.{refl, sym, ap, ◌∙◌, subst, arith, nat_tests, same_Some, IfOk-at_ok, ◌==◌, list_any, filter, flat_map, AllByRecursion}
use Rattle.upd_partial.proofs.Common.{Contains, CardRef, Fault, ◌>>=◌, Entry, Place, counted_cards, next_age, CardView, DeckView, LibraryView, all_decks}
use Rattle.upd_partial.proofs.Common.{cards_of, place_of, ref_of, Continues, IsSound, is_active, live_cards, live_targets, status_of, count_on, live_count}
use Rattle.upd_partial.proofs.Common.{all_by_index, at_contained, contained_at, card_of_place, cards_of_deck, deck_ages_apart, in_flat, place_at, status_at}
use Rattle.upd_partial.proofs.Common.{same_ref, stood_in, touched, touched_in, LineView, Reached, applied, DecksGoOn, purges_nothing, Grows}
use Rattle.upd_partial.proofs.Common.{all_applied_grows, all_filter, run_goes, run_sound, cards_found, same_ref_is, all_passed, all_counted, affected}
use Rattle.upd_partial.proofs.Common.{is_touched, is_due, AreIdle, DoesWithout, NamesNone, left_out}
use Rattle.std.proofs.Common.{slice_get}
use Rattle.std.proofs.lemmas.List.Folds.{list_any-append}
use Rattle.std.specs.Prelude.{length}
use Rattle.upd_core.specs.Counted.{counted_card}
use Rattle.upd_core.specs.Library.{name_of}
use Rattle.upd_core.specs.Reach.{differs, is_reached, is_retaken}
use Rattle.upd_core.specs.declared.target.Target.{Target}
use Rattle.upd_core.specs.declared.target.Target.TheVariants as target
use Rattle.upd_core.proofs.FoundLemmas.{card_held, one_card}
use Rattle.upd_laws.specs.PurgingBack.{AreAmong, Ended, Kept, Come}
use Rattle.upd_laws.proofs.BackLibraryLemmas.{Within}
use Rattle.upd_yank.proofs.KeptLemmas.{same_name}
use Rattle.upd_partial.proofs.AppliedLemmas.{applied_left}
use Rattle.upd_partial.proofs.StayLemmas.{yanks_stay}
use Rattle.upd_partial.proofs.WholeLemmas.{no_purges, stood}

-- ---- a plain run deletes no card

-- a card of the same ident and number
abbrev IsSameCard : CardView → CardView → Type 0
IsSameCard c d = (d.ident ≡ c.ident) × (d.number ≡ c.number)

among_there : (P : ℕ → Type 0) {cs ds : List CardView} (k : ℕ) (c : CardView) → AreAmong P cs ds → slice_get cs k ≡ Some c →
    (j : ℕ) × (d : CardView) × (slice_get ds j ≡ Some d) × IsSameCard c d
among_there P k c Ended e = absurd (cc)
among_there P zero c (Kept g r) e =
    let same = same_Some _ c e in (
      zero,
      _,
      refl,
      (
        ap (λ (x : CardView). x.ident) g.2 ∙ ap (λ (x : CardView). x.ident) same,
        ap (λ (x : CardView). x.number) g.2 ∙ ap (λ (x : CardView). x.number) same,
      ),
    )
among_there P (suc k) c (Kept g r) e = let at = among_there P k c r e in (suc at.0, at.1, at.2, at.3)
among_there P k c (Come n a r) e = let at = among_there P k c r e in (suc at.0, at.1, at.2, at.3)

deck_there : (P : ℕ → Type 0) (ds es : List DeckView) (k : ℕ) (d : DeckView) → DecksGoOn P ds es → slice_get ds k ≡ Some d →
    (e : DeckView) × (slice_get es k ≡ Some e) × (e.ident ≡ d.ident) × AreAmong P d.cards e.cards
deck_there P [] es k d on at = absurd (cc)
deck_there P (b ∷ ds) [] k d on at = absurd on
deck_there P (b ∷ ds) (e ∷ es) zero d on at =
    let same = same_Some b d at in
    (e, refl, on.0 ∙ ap (λ (x : DeckView). x.ident) same, subst (λ (x : DeckView). AreAmong P x.cards e.cards) same on.1)
deck_there P (b ∷ ds) (e ∷ es) (suc k) d on at = deck_there P ds es k d on.2 at

-- where a library has only grown, a card that has a status keeps one
still_there : (x : ℕ) (l m : LibraryView) (card : CardRef) → IsSound l → IsSound m → Continues l.idents m.idents → Grows x l m →
    status_of card m ≡ None → status_of card l ≡ None
still_there x l m card old new on grown none = go (place_of card l) refl
  where
    among : (k : ℕ) (d : DeckView) → slice_get (all_decks l) k ≡ Some d →
        (e : DeckView) × (slice_get (all_decks m) k ≡ Some e) × AreAmong (Within x (length m.idents)) d.cards e.cards
    among zero d at = (
      record { ident = 0; cards = m.yanks },
      refl,
      subst (λ (b : DeckView). AreAmong (Within x (length m.idents)) b.cards m.yanks)
          (same_Some (record { ident = 0; cards = l.yanks }) d at) grown.yanks,
    )
    among (suc k) d at = let there = deck_there (Within x (length m.idents)) l.decks m.decks k d grown.decks at in (there.0, there.1, there.3)

    stands : (d : DeckView) (c : CardView) → Contains (all_decks l) d → Contains d.cards c → status_of (ref_of l.idents c) m ≡ None → ⊥
    stands d c in_decks in_cards gone =
        let index = contained_at (all_decks l) d in_decks in
        let place = contained_at d.cards c in_cards in
        let deck = among index.0 d index.1 in
        let there = among_there (Within x (length m.idents)) place.0 c deck.2 place.1 in
        let own = card_held l c old (in_flat (all_decks l) index.0 d place.0 c index.1 place.1) in
        let name = same_name l m c.ident old on own in
        let names : name_of m.idents there.1.ident ≡ name_of l.idents c.ident = ap (name_of m.idents) there.3.0 ∙ sym name in
        let same : ref_of m.idents there.1 ≡ ref_of l.idents c = λ i. record { name = names i; number = there.3.1 i } in
        let has = status_at m deck.0 there.1 new (at_contained (all_decks m) index.0 deck.0 deck.1)
        (at_contained deck.0.cards there.0 there.1 there.2) in
        let q : None ≡ Some (is_active (live_targets m) deck.0.ident there.1) = sym gone ∙ sym (ap (λ r. status_of r m) same) ∙ has in
        absurd (cc)

    go : (o : Option Place) → place_of card l ≡ o → status_of card l ≡ None
    go None e = rw e refl
    go (Some p) e =
        let named = card_of_place l card p old e in
        let deck = cards_found l p.deck p.index named.0 named.1 in
        absurd (stands deck.0 named.0 deck.1 deck.3 (ap (λ r. status_of r m) named.2 ∙ none))

-- ---- a card that is where it was, with the same history, isn't touched

none_in_flat : {A B : Type 0} (test : B → Bool) (f : A → List B) (xs : List A) → AllByRecursion (λ x. list_any test (f x) ≡ false) xs →
    list_any test (flat_map f xs) ≡ false
none_in_flat test f [] all = refl
none_in_flat test f (x ∷ xs) all =
    list_any-append test (f x) (flat_map f xs) ∙ (λ i. all.0 i || list_any test (flat_map f xs)) ∙ none_in_flat test f xs all.1

none_in_list : {A B : Type 0} (test : B → Bool) (f : A → B) (p : A → Bool) (xs : List A) →
    AllByRecursion (λ x. p x ≡ true → test (f x) ≡ false) xs → list_any test (map f (filter p xs)) ≡ false
none_in_list test f p [] all = refl
none_in_list test f p (x ∷ xs) all = go (p x) refl (none_in_list test f p xs all.1)
  where
    go : (b : Bool) → p x ≡ b → list_any test (map f (filter p xs)) ≡ false → list_any test (map f (cond (p x) (x ∷ filter p xs) (filter p xs))) ≡ false
    go true e later = rw e (let here = all.0 e in rw here later)
    go false e later = rw e later

-- such a card isn't touched: no other card has its reference
untouched : (l m : LibraryView) (d : DeckView) (c : CardView) → IsSound m → Contains (all_decks m) d → Contains d.cards c →
    stood_in (cards_of d.ident l) c ≡ true → list_any (same_ref (ref_of m.idents c)) (touched l m) ≡ false
untouched l m d c sound in_decks in_cards same =
    none_in_flat (same_ref r) (touched_in m.idents l) (all_decks m)
    (all_by_index (all_decks m) (λ j e at. none_in_list (same_ref r) (ref_of m.idents) (λ b. not (stood_in (cards_of e.ident l) b)) e.cards
    (all_by_index e.cards (λ k b there new. other j e at k b there new (same_ref r (ref_of m.idents b)) refl))))
  where
    r : CardRef
    r = ref_of m.idents c

    other : (j : ℕ) (e : DeckView) → slice_get (all_decks m) j ≡ Some e → (k : ℕ) (b : CardView) → slice_get e.cards k ≡ Some b →
        not (stood_in (cards_of e.ident l) b) ≡ true → (s : Bool) → same_ref (ref_of m.idents c) (ref_of m.idents b) ≡ s →
        same_ref (ref_of m.idents c) (ref_of m.idents b) ≡ false
    other j e at k b there new false f = f
    other j e at k b there new true f =
        let one = same_ref_is (ref_of m.idents c) (ref_of m.idents b) f in
        let index = contained_at (all_decks m) d in_decks in
        let place = contained_at d.cards c in_cards in
        let card : c ≡ b = one_card m c b sound (in_flat (all_decks m) index.0 d place.0 c index.1 place.1) (in_flat (all_decks m) j e k b at there) one in
        let own = place_at m d place.0 c sound in_decks place.1 in
        let its = place_at m e k b sound (at_contained (all_decks m) j e at) there in
        let deck : d.ident ≡ e.ident = ap (λ (p : Place). p.deck) (same_Some _ _ (sym own ∙ ap (λ r. place_of r m) one ∙ its)) in
        let stands : stood_in (cards_of e.ident l) b ≡ true = (λ i. stood_in (cards_of (sym deck i) l) (sym card i)) ∙ same in
        absurd (let q = sym new ∙ ap not stands in cc)

-- ---- nothing flips where the yank cards stay

unreached : (counts : Target → ℕ) (d : ℕ) (c : CardView) → is_reached counts counts d c ≡ false
unreached counts d c = (λ i. none c.history i || unflipped (counts (target.Deck d) == 0) i)
  where
    unflipped : (b : Bool) → differs b b ≡ false
    unflipped true = refl
    unflipped false = refl

    none : (es : List Entry) → list_any (is_retaken counts counts d) es ≡ false
    none [] = refl
    none (e ∷ es) = λ i. (unflipped (counts (target.Set e.ident) == 0) i || unflipped (counts (target.SetIn e.ident d) == 0) i) || none es i

-- ---- the decks that a plain run doesn't need

all_left : {A : Type 0} (P : A → Type 0) (test : A → Bool) (xs : List A) → AllByRecursion (λ x. test x ≡ true → P x) xs → AllByRecursion P (filter test xs)
all_left P test [] all = tt
all_left P test (x ∷ xs) all = go (test x) refl (all_left P test xs all.1)
  where
    go : (b : Bool) → test x ≡ b → AllByRecursion P (filter test xs) → AllByRecursion P (cond (test x) (x ∷ filter test xs) (filter test xs))
    go true e later = rw e (all.0 e, later)
    go false e later = rw e later

-- a deck that stays has the cards that it had
stands_as_it_stood : (out : ℕ → Bool) (l m : LibraryView) (d : DeckView) → IsSound l → left_out out m ≡ left_out out l → Contains (all_decks m) d →
    out d.ident ≡ true → cards_of d.ident l ≡ d.cards
stands_as_it_stood out l m d sound same in_decks is =
    let here = contained_at (all_decks m) d in_decks in
    let stand : AllByRecursion (λ d. cards_of d.ident l ≡ d.cards) (all_decks l) =
    all_by_index (all_decks l) (λ k d at. cards_of_deck l k d (deck_ages_apart l sound) at) in
    all_passed (λ d. cards_of d.ident l ≡ d.cards) (λ d. out d.ident) (all_decks m) here.0 d here.1 is
    (subst (AllByRecursion (λ d. cards_of d.ident l ≡ d.cards)) (sym same) (all_filter _ (λ d. out d.ident) (all_decks l) stand))

-- decks that stay are idle where the yank cards stay and no card is deleted
unaffected : (out : ℕ → Bool) (l m : LibraryView) → IsSound l → IsSound m → left_out out m ≡ left_out out l → m.yanks ≡ l.yanks →
    AllByRecursion (λ k. out k.deck ≡ false) (affected (touched l m) l m)
unaffected out l m old new same yanks =
    all_left (λ k. out k.deck ≡ false) (is_due (is_touched (touched l m)) (live_count l) (live_count m)) (counted_cards m)
    (all_counted (λ k. is_due (is_touched (touched l m)) (live_count l) (live_count m) k ≡ true → out k.deck ≡ false) m
    (λ d c in_decks in_cards due. idle d c in_decks in_cards due (out d.ident) refl))
  where
    counts : live_count m ≡ live_count l
    counts = ap (λ ys. count_on (live_cards ys)) yanks

    idle : (d : DeckView) (c : CardView) → Contains (all_decks m) d → Contains d.cards c →
        is_due (is_touched (touched l m)) (live_count l) (live_count m) (counted_card m.idents d.ident c) ≡ true → (b : Bool) → out d.ident ≡ b →
        out d.ident ≡ false
    idle d c in_decks in_cards due false e = e
    idle d c in_decks in_cards due true e =
        let cards = stands_as_it_stood out l m d old same in_decks e in
        let place = contained_at d.cards c in_cards in
        let card = untouched l m d c new in_decks in_cards (ap (λ cs. stood_in cs c) cards ∙ stood d.cards place.0 c place.1) in
        let reach : is_reached (live_count l) (live_count m) d.ident c ≡ false =
        ap (λ (n : Target → ℕ). is_reached (live_count l) n d.ident c) counts ∙ unreached (live_count l) d.ident c in
        absurd (let q : (false || false) ≡ true = sym (λ i. card i || reach i) ∙ due in cc)

-- a run without yanks and purges that names no yank card leaves the yank cards as they are
pub yanks_as_before : (out : ℕ → Bool) (lines : List LineView) (l : LibraryView) (reached : Reached) → IsSound l → DoesWithout out lines l →
    NamesNone (λ d. d == 0) lines l → applied lines l ≡ Ok reached → reached.library.yanks ≡ l.yanks
yanks_as_before out lines l reached sound does no_yank is =
    yanks_stay (λ d. d == 0) lines l reached sound (record { plain = does.plain; listed = young; cards = no_yank }) is refl
  where
    young : (z : ℕ) → length l.idents < z → (z == 0) ≡ false
    young z more = grind (arith, nat_tests)

-- The decks that a plain run doesn't need are idle in its status update where it names no yank card.
pub idle_in : (out : ℕ → Bool) (lines : List LineView) (l : LibraryView) (reached : Reached) → IsSound l → DoesWithout out lines l →
    NamesNone (λ d. d == 0) lines l → applied lines l ≡ Ok reached → AreIdle (touched l reached.library) l reached.library out
idle_in out lines l reached sound does no_yank is = record {
  unaffected = unaffected out l reached.library sound later (applied_left out lines l reached sound does is)
      (yanks_as_before out lines l reached sound does no_yank is);
  staying = λ card none. still_there (next_age l) l reached.library card sound later (run_goes lines l reached is) grown none;
}
  where
    later : IsSound reached.library
    later = run_sound lines l reached sound is

    grown : Grows (next_age l) l reached.library
    grown =
        let leads = ap (λ (r : Result Reached Fault). r >>= (λ reached. Ok reached.library)) is in
        let purges : (purges_nothing lines && true) ≡ true = rw (no_purges lines does.plain) refl in
        IfOk-at_ok (Grows (next_age l) l) leads (all_applied_grows (next_age l) (lines ∷ []) l (omega arith) purges)
