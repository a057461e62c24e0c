-- In a sound library a yank card is active where it is live.
use Rattle.upd_core.proofs.Common.{◌≡◌, ℕ, Bool, true, false, ◌&&◌, List, [], ◌∷◌, ◌++◌, map, slice_get, Option, Some, None, refl, sym, ap, ◌∙◌, subst, arith}
use Rattle.upd_core.proofs.Common.{ne_eqb, Decides-eqb, ◌==◌, option_map, option_and_then, list_any, AllByRecursion, CardRef, Place, Target, Set, SetIn, Deck}
use Rattle.upd_core.proofs.Common.{CardView, LibraryView, card_in, place_of, IsSound, is_good, targets_of, liveness, live_cards, live_targets, is_active}
use Rattle.upd_core.proofs.Common.{status_of, live_of, live_yank, yank_at, TakesOlder, IsAged}
use Rattle.std.proofs.lemmas.Option.{slice_get-map}
use Rattle.upd_core.specs.Status.{takes_deck}
use Rattle.upd_core.proofs.WellFoundedLemmas.{all_good_same}
use Rattle.upd_core.proofs.LiveLemmas.{good_before, bad_before}
use Rattle.upd_core.proofs.StatusLaws.{live_yank-place_of}

-- ---- no target takes `YANK$$$`

older_take_none : (age : ℕ) (targets : List Target) → AllByRecursion (TakesOlder age) targets → list_any (takes_deck 0) targets ≡ false
older_take_none age [] older = refl
older_take_none age (Set z ∷ targets) older = older_take_none age targets older.1
older_take_none age (SetIn z d ∷ targets) older = older_take_none age targets older.1
older_take_none age (Deck d ∷ targets) older = rw (ne_eqb d 0 (λ none. omega (arith, older.0.0))) (older_take_none age targets older.1)

none_of_both : {A : Type 0} (test : A → Bool) (xs ys : List A) → list_any test xs ≡ false → list_any test ys ≡ false → list_any test (xs ++ ys) ≡ false
none_of_both test [] ys e f = f
none_of_both test (x ∷ xs) ys e f = go (test x) refl (none_of_both test xs ys)
  where
    go : (b : Bool) → test x ≡ b → (list_any test xs ≡ false → list_any test ys ≡ false → list_any test (xs ++ ys) ≡ false)
        → list_any test (x ∷ (xs ++ ys)) ≡ false
    go true g rest = let bad = rw g at e in absurd (cc)
    go false g rest = rw g (rest (rw g at e) f)

none_take_yanks : (yanks : List CardView) → IsAged yanks → list_any (takes_deck 0) (targets_of (live_cards yanks)) ≡ false
none_take_yanks [] aged = refl
none_take_yanks (y ∷ ys) aged = go (is_good (targets_of (live_cards ys)) 0 y) refl (none_take_yanks ys aged.2)
  where
    go : (good : Bool) → is_good (targets_of (live_cards ys)) 0 y ≡ good → list_any (takes_deck 0) (targets_of (live_cards ys)) ≡ false
        → list_any (takes_deck 0) (targets_of (live_cards (y ∷ ys))) ≡ false
    go true e rest = rw e (none_of_both (takes_deck 0) y.targets (targets_of (live_cards ys)) (older_take_none y.ident y.targets aged.0) rest)
    go false e rest = rw e rest

-- so a yank card is active where it is good
pub active_where_good : (l : LibraryView) (c : CardView) → IsSound l → is_active (live_targets l) 0 c ≡ is_good (live_targets l) 0 c
active_where_good l c sound = rw (none_take_yanks l.yanks sound.yanks) (always (is_good (live_targets l) 0 c))
  where
    always : (b : Bool) → (b && true) ≡ b
    always true = refl
    always false = refl

-- ---- liveness

map_same : {A B : Type 0} (f g : A → B) (xs : List A) → AllByRecursion (λ x. f x ≡ g x) xs → map f xs ≡ map g xs
map_same f g [] same = refl
map_same f g (x ∷ xs) same = rw (same.0, map_same f g xs same.1) refl

-- a yank card is live where it is good, given the targets of all live cards
live_where_good : (yanks : List CardView) → IsAged yanks → liveness yanks ≡ map (is_good (targets_of (live_cards yanks)) 0) yanks
live_where_good [] aged = refl
live_where_good (y ∷ ys) aged = go (is_good later 0 y) refl (live_where_good ys aged.2)
  where
    later : List Target
    later = targets_of (live_cards ys)

    -- the liveness of each card, where these are all live cards
    IsTheirLiveness : List CardView → Type 0
    IsTheirLiveness live = is_good later 0 y ∷ liveness ys ≡ map (is_good (targets_of live) 0) (y ∷ ys)

    go : (good : Bool) → is_good later 0 y ≡ good → liveness ys ≡ map (is_good later 0) ys → IsTheirLiveness (live_cards (y ∷ ys))
    go true e rest =
        let same = all_good_same later y.targets y.ident (y ∷ ys) aged.0 aged.1 in
        let behind : liveness ys ≡ map (is_good (y.targets ++ later) 0) ys = rest
        ∙ sym (map_same (is_good (y.targets ++ later) 0) (is_good later 0) ys same.1) in
        subst IsTheirLiveness (sym (good_before y (live_cards ys) e)) (ap (λ b. b ∷ liveness ys) (sym same.0)
        ∙ ap (λ bs. is_good (y.targets ++ later) 0 y ∷ bs) behind)
    go false e rest = subst IsTheirLiveness (sym (bad_before y (live_cards ys) e)) (ap (λ bs. is_good later 0 y ∷ bs) rest)

pub live_where_active : (l : LibraryView) → IsSound l → liveness l.yanks ≡ map (is_active (live_targets l) 0) l.yanks
live_where_active l sound = live_where_good l.yanks sound.yanks ∙ sym (go l.yanks)
  where
    go : (yanks : List CardView) → map (is_active (live_targets l) 0) yanks ≡ map (is_good (live_targets l) 0) yanks
    go [] = refl
    go (y ∷ ys) = rw (active_where_good l y sound, go ys) refl

-- the status of a yank card is its liveness
pub live_status : (l : LibraryView) (card : CardRef) (live : Bool) → IsSound l → live_yank card (live_of l) ≡ Some live → status_of card l ≡ Some live
live_status l card live sound e = go (place_of card l) refl (sym (live_yank-place_of l card sound) ∙ e)
  where
    at : (p : Place) → (b : Bool) → (p.deck == 0) ≡ b → yank_at l p ≡ Some live → option_map (is_active (live_targets l) p.deck) (card_in p l) ≡ Some live
    at p true f found =
        let zero : p.deck ≡ 0 = (Decides-eqb p.deck 0).0 f in
        let note_stray : slice_get (liveness l.yanks) p.index ≡ Some live = rw f at found in
        rw zero (sym (slice_get-map (is_active (live_targets l) 0) l.yanks p.index) ∙ ap (λ flags. slice_get flags p.index) (sym (live_where_active l sound))
        ∙ note_stray)
    at p false f found = let none = rw f at found in absurd (cc)

    go : (o : Option Place) → place_of card l ≡ o → option_and_then (yank_at l) o ≡ Some live → status_of card l ≡ Some live
    go None f found = absurd (cc)
    go (Some p) f found = rw f (at p (p.deck == 0) refl found)
