-- What the cascade finds on a sound library.
use Rattle.upd_yank.proofs.Common.{◌≡◌, ℕ, ◌+◌, Bool, List, [], ◌∷◌, ◌++◌, map, length, Option, Some, None, refl, ap, sym, ◌∙◌, subst, arith, length-append}
use Rattle.upd_yank.proofs.Common.{filter, AllByRecursion, update_all, length-map, all_back, all_front, filter-append, CountedCardView, counted_card}
use Rattle.upd_yank.proofs.Common.{counted_cards, others_of, yanks_of, Target, CardView, LibraryView, IsSound, IsAged, live_cards, status_of, count_on}
use Rattle.upd_yank.proofs.Common.{live_count, touched, same_ref, CardRef, AreYanks, IsRightBefore, TakesNoYanks, found_of, found_others, found_yanks, is_due}
use Rattle.upd_yank.proofs.Common.{live_now, stay, views}
use Rattle.upd_yank.proofs.SettleLemmas.{settled_is}
use Rattle.upd_yank.proofs.StateLemmas.{HadStatus, put_all, stay_right, statuses_are}
use Rattle.upd_yank.proofs.WorkLemmas.{Agrees, HasStatus, IsListed, all_agree, all_both, all_listed_back, all_listed_others, all_map, found_back, length_back}
use Rattle.upd_yank.proofs.WorkLemmas.{listed_back, listed_front, right_back, right_others, takes_no_yanks, yanks_found}

-- ---- the cards of `YANK$$$`

pub views_are : (l : LibraryView) → views (yanks_of l) ≡ l.yanks
views_are l = go l.yanks
  where
    go : (ys : List CardView) → views (map (counted_card l.idents 0) ys) ≡ ys
    go [] = refl
    go (y ∷ ys) = ap (λ x. y ∷ x) (go ys)

are_yanks : (l : LibraryView) → AreYanks (yanks_of l)
are_yanks l = go l.yanks
  where
    go : (ys : List CardView) → AreYanks (map (counted_card l.idents 0) ys)
    go [] = tt
    go (y ∷ ys) = (refl, go ys)

-- ---- the cascade on a sound library

-- what the cascade knows of a library: stored statuses are those before, and cards that aren't due had theirs
pub record IsKnown (touched was : CountedCardView → Bool) (before : Target → ℕ) (known : CardRef → Option Bool) (l : LibraryView) : Type 0 where
  pub sound : IsSound l
  pub kept : AllByRecursion (IsRightBefore touched was before) (counted_cards l)
  pub had : AllByRecursion (HadStatus l (is_due touched before (live_count l)) known) (counted_cards l)

pub live_is : (touched was : CountedCardView → Bool) (before : Target → ℕ) (known : CardRef → Option Bool) (l : LibraryView) →
    IsKnown touched was before known l →
    live_now touched was before (yanks_of l) ≡ live_cards l.yanks
live_is touched was before known l is =
    let yanks = views_are l in
    settled_is touched was before (yanks_of l) (are_yanks l) (subst TakesNoYanks (sym yanks) (takes_no_yanks l.yanks is.sound.yanks))
    (all_front (IsRightBefore touched was before) (yanks_of l) (others_of l) is.kept)
    ∙ ap live_cards yanks

-- what is found, by the counts of the library
pub found_is : (touched was : CountedCardView → Bool) (before : Target → ℕ) (known : CardRef → Option Bool) (l : LibraryView) →
    IsKnown touched was before known l →
    found_yanks touched was before (yanks_of l) ++ found_others touched before (count_on (live_now touched was before (yanks_of l))) (others_of l)
    ≡ found_back touched before (live_count l) (yanks_of l) ++ found_others touched before (live_count l) (others_of l)
found_is touched was before known l is =
    let yanks = views_are l in
    let agrees : AllByRecursion (Agrees (live_count l) (count_on (live_cards (views (yanks_of l))))) (views (yanks_of l)) =
    subst (λ ys. AllByRecursion (Agrees (live_count l) (count_on (live_cards ys))) ys) (sym yanks) (all_agree (live_count l) l.yanks) in
    let aged : IsAged (views (yanks_of l)) = subst IsAged (sym yanks) is.sound.yanks in
    let front = yanks_found touched was before (live_count l) (yanks_of l) (are_yanks l) aged
    (all_front (IsRightBefore touched was before) (yanks_of l) (others_of l) is.kept) agrees in
    λ i. front i ++ found_others touched before (count_on (live_is touched was before known l is i)) (others_of l)

pub found_count : (touched : CountedCardView → Bool) (before now : Target → ℕ) (l : LibraryView) →
    length (found_back touched before now (yanks_of l) ++ found_others touched before now (others_of l))
    ≡ length (filter (is_due touched before now) (counted_cards l))
found_count touched before now l =
    let due = is_due touched before now in
    let whole = ap length (filter-append due (yanks_of l) (others_of l)) in
    omega (
      arith,
      length-append (found_back touched before now (yanks_of l)) (found_others touched before now (others_of l)),
      length_back touched before now
          (yanks_of l),
      length-map {B = CardRef × Bool} (filter due (others_of l)) (found_of now),
      whole,
      length-append (filter due (yanks_of l))
          (filter due (others_of l)),
    )

-- what is found is right, and each due card is among it
pub found_right : (touched was : CountedCardView → Bool) (before : Target → ℕ) (known : CardRef → Option Bool) (l : LibraryView) →
    IsKnown touched was before known l →
    AllByRecursion (λ p. status_of p.0 l ≡ Some p.1)
    (found_back touched before (live_count l) (yanks_of l) ++ found_others touched before (live_count l) (others_of l)) ×
    AllByRecursion (IsListed (is_due touched before (live_count l))
    (found_back touched before (live_count l) (yanks_of l) ++ found_others touched before (live_count l) (others_of l))) (counted_cards l)
found_right touched was before known l is =
    let now = live_count l in
    let due = is_due touched before now in
    let back = found_back touched before now (yanks_of l) in
    let others = found_others touched before now (others_of l) in
    let has = statuses_are l is.sound in (
      all_both (λ p. status_of p.0 l ≡ Some p.1) back others
          (right_back touched before now l (yanks_of l) (all_front (HasStatus l now) (yanks_of l) (others_of l) has))
          (right_others touched before now l (others_of l) (all_back (HasStatus l now) (yanks_of l) (others_of l) has)),
      all_both (IsListed due (back ++ others)) (yanks_of l) (others_of l)
          (all_map (IsListed due back) (IsListed due (back ++ others)) (yanks_of l) (λ k h. listed_front due back others k h)
          (all_listed_back touched before now (yanks_of l)))
          (all_map (IsListed due others) (IsListed due (back ++ others)) (others_of l) (λ k h. listed_back due back others k h)
          (all_listed_others touched before now (others_of l))),
    )

pub statuses_right : (touched was : CountedCardView → Bool) (before : Target → ℕ) (known : CardRef → Option Bool) (l : LibraryView) (r : CardRef) →
    IsKnown touched was before known l →
    update_all same_ref (stay known (others_of l) (stay known (yanks_of l) (λ _. None)))
    (found_back touched before (live_count l) (yanks_of l) ++ found_others touched before (live_count l) (others_of l)) r ≡ status_of r l
statuses_right touched was before known l r is =
    let now = live_count l in
    let found = found_back touched before now (yanks_of l) ++ found_others touched before now (others_of l) in
    let right = found_right touched was before known l is in
    put_all l found (stay known (others_of l) (stay known (yanks_of l) (λ _. None))) r right.0
    (λ none. stay_right l (is_due touched before now) known now found r is.sound (statuses_are l is.sound) is.had right.1 none)
