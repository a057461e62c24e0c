-- The cards that the cascade finds live are the live ones, and the statuses that it keeps are those that it would find.
use Rattle.upd_yank.proofs.Common.{◌≡◌, ℕ, ◌+◌, Bool, true, false, ◌&&◌, ◌||◌, if◌then◌else◌, List, [], ◌∷◌, refl, ap, sym, ◌∙◌, arith, ◌==◌, AllByRecursion}
use Rattle.upd_yank.proofs.Common.{CountedCardView, Target, Deck, CardView, is_reached, stays_on, is_good, live_cards, targets_of, count_on, has_target}
use Rattle.upd_yank.proofs.Common.{is_taken_by, AreYanks, IsRightBefore, TakesNoYanks, is_taken_by, is_active_by, status_now, live_now, views}
use Rattle.upd_yank.proofs.FlipLemmas.{count_cons, good_is, same_active}

-- the status now is the one that would be found
pub status_anew : (touched was : CountedCardView → Bool) (before now : Target → ℕ) (k : CountedCardView) → IsRightBefore touched was before k →
    status_now touched was before now k ≡ is_active_by now k.deck k.view
status_anew touched was before now k kept = go (touched k) refl (is_reached before now k.deck k.view) refl
  where
    go : (t : Bool) → touched k ≡ t → (r : Bool) → is_reached before now k.deck k.view ≡ r →
        (if touched k || is_reached before now k.deck k.view then is_active_by now k.deck k.view else was k) ≡ is_active_by now k.deck k.view
    go true e r f = ap (λ t. if t || is_reached before now k.deck k.view then is_active_by now k.deck k.view else was k) e
    go false e true f =
        ap (λ t. if t || is_reached before now k.deck k.view then is_active_by now k.deck k.view else was k) e
        ∙ ap (λ r. if r then is_active_by now k.deck k.view else was k) f
    go false e false f =
        ap (λ t. if t || is_reached before now k.deck k.view then is_active_by now k.deck k.view else was k) e
        ∙ ap (λ r. if r then is_active_by now k.deck k.view else was k) f
        ∙ kept.status e ∙ same_active before now k.deck k.view f

-- ---- the live cards among some take no more than these

count_none : (y : CardView) (live : List CardView) (t : Target) (b : Bool) → has_target t y ≡ false →
    count_on (if b then y ∷ live else live) t ≡ count_on live t
count_none y live t true e =
    let n : count_on (y ∷ live) t ≡ 0 + count_on live t = count_cons y live t ∙ ap (λ b. (if b then 1 else 0) + count_on live t) e in omega arith
count_none y live t false e = refl

-- a card without a target leaves its count as it was
pub count_behind : (y : CardView) (ys : List CardView) (t : Target) → has_target t y ≡ false → count_on (live_cards (y ∷ ys)) t ≡ count_on (live_cards ys) t
count_behind y ys t e = count_none y (live_cards ys) t (is_good (targets_of (live_cards ys)) 0 y) e

pub no_deck_count : (ys : List CardView) → TakesNoYanks ys → count_on (live_cards ys) (Deck 0) ≡ 0
no_deck_count [] none = refl
no_deck_count (y ∷ ys) none = count_behind y ys (Deck 0) none.0 ∙ no_deck_count ys none.1

-- a card of `YANK$$$` is active where it is good, since none takes `YANK$$$` as a whole
pub yank_is_good : (live : List CardView) (y : CardView) → count_on live (Deck 0) ≡ 0 → is_active_by (count_on live) 0 y ≡ is_good (targets_of live) 0 y
yank_is_good live y none =
    let zero : (count_on live (Deck 0) == 0) ≡ true = ap (λ n. n == 0) none in
    ap (λ b. stays_on (is_taken_by (count_on live) 0) y.history && b) zero
    ∙ and_true (stays_on (is_taken_by (count_on live) 0) y.history) ∙ sym (good_is live 0 y)
  where
    and_true : (b : Bool) → (b && true) ≡ b
    and_true true = refl
    and_true false = refl

-- ---- the cards that the cascade finds live are the live ones

pub settled_is : (touched was : CountedCardView → Bool) (before : Target → ℕ) (ks : List CountedCardView) → AreYanks ks → TakesNoYanks (views ks) →
    AllByRecursion (IsRightBefore touched was before) ks → live_now touched was before ks ≡ live_cards (views ks)
settled_is touched was before [] yanks none kept = refl
settled_is touched was before (k ∷ ks) yanks none kept = go (settled_is touched was before ks yanks.1 none.1 kept.1)
  where
    live : List CardView
    live = live_cards (views ks)

    status : live_now touched was before ks ≡ live → status_now touched was before (count_on (live_now touched was before ks)) k
        ≡ is_good (targets_of live) 0 k.view
    status later =
        ap (λ cards. status_now touched was before (count_on cards) k) later
        ∙ status_anew touched was before (count_on live) k kept.0
        ∙ ap (λ d. is_active_by (count_on live) d k.view) yanks.0
        ∙ yank_is_good live k.view (no_deck_count (views ks) none.1)

    go : live_now touched was before ks ≡ live → live_now touched was before (k ∷ ks) ≡ live_cards (views (k ∷ ks))
    go later = λ i. if status later i then k.view ∷ later i else later i
