-- A status update leaves the statuses and counts of the library after a run, and examines no more cards than it must.
use Rattle.upd_yank.proofs.Common.{◌≡◌, ℕ, zero, suc, ◌+◌, ◌<◌, ◌≤◌, ◌^◌, Bool, true, false, ◌||◌, List, [], ◌∷◌, ◌++◌, map, length, Option, Some, None}
use Rattle.upd_yank.proofs.Common.{is_some, unwrap_or, inl, inr, refl, ap, sym, ◌∙◌, subst, arith, length-append, list_any, filter, AllByRecursion}
use Rattle.upd_yank.proofs.Common.{update_all, or_parts, all_by_index, same_ref_own, CountedCardView, counted_card, counted_cards, others_of, yanks_of}
use Rattle.upd_yank.proofs.Common.{Target, LibraryView, is_reached, Continues, IsSound, is_active, live_cards, live_targets, status_of, count_in, count_on}
use Rattle.upd_yank.proofs.Common.{live_count, touched, ChangeView, same_ref, TakeGone, CardRef, is_other, is_touched, status_before, ArePut, IsRightBefore}
use Rattle.upd_yank.proofs.Common.{found_of, found_of_all, found_others, found_yanks, is_active_by, is_due, live_now, stay, AreCountable, CacheView, IsRight}
use Rattle.upd_yank.proofs.Common.{IsRunBetween, kept_status, was_active}
use Rattle.upd_diff.proofs.StateLemmas.{any_of}
use Rattle.upd_yank.proofs.EnoughLemmas.{Sees}
use Rattle.upd_yank.proofs.FlipLemmas.{same_active, status_is}
use Rattle.upd_yank.proofs.KeptLemmas.{untouched_before, untouched_status}
use Rattle.upd_yank.proofs.StatusChangeLemmas.{IsSettled}
use Rattle.upd_yank.proofs.WholeLemmas.{whole_right}
use Rattle.upd_yank.proofs.StateLemmas.{HadStatus, all_counted, put_all, statuses_are, unfound_stayed}
use Rattle.upd_yank.proofs.WorkLemmas.{HasStatus, IsListed, is_found, all_both, all_map, found_back}
use Rattle.upd_yank.specs.Affected.{affected, altered}
use Rattle.upd_yank.proofs.SoundCascadeLemmas.{IsKnown, live_is, found_is, found_count, found_right, statuses_right}

-- ---- after a run

-- the counts before are those of the library before
before_is : (old new : LibraryView) (cache : CacheView) (run : List CardRef) → IsRunBetween old new cache run → count_in cache.counts ≡ live_count old
before_is old new cache run between = λ i t. between.right.count t i

-- a card that isn't touched had, before a run, the status that its history gives by the counts before it
untouched_was : (old new : LibraryView) → IsSound old → Continues old.idents new.idents →
    AllByRecursion (λ k. is_touched (touched old new) k ≡ false → status_of k.card old ≡ Some (is_active_by (live_count old) k.deck k.view)) (counted_cards new)
untouched_was old new before goes_on =
    all_counted (λ k. is_touched (touched old new) k ≡ false → status_of k.card old ≡ Some (is_active_by (live_count old) k.deck k.view)) new
    (λ d c in_decks in_cards. untouched_status old new d c before goes_on in_decks in_cards)

pub known_between : (old new : LibraryView) (cache : CacheView) (run : List CardRef) → IsRunBetween old new cache run →
    IsKnown (is_touched run) (was_active cache.states) (count_in cache.counts) (kept_status cache.states) new
known_between old new cache run between = record {
  sound = between.after;
  kept = all_map Was (IsRightBefore (is_touched run) (was_active cache.states) before) (counted_cards new)
      (λ k h. record { status = λ none. ap (λ o. unwrap_or o false) (between.right.status k.card ∙ h none) }) was;
  had = both (counted_cards new) was (statuses_are new between.after);
}
  where
    before : Target → ℕ
    before = count_in cache.counts

    Was : CountedCardView → Type 0
    Was k = is_touched run k ≡ false → status_of k.card old ≡ Some (is_active_by before k.deck k.view)

    was : AllByRecursion Was (counted_cards new)
    was =
        subst (λ (n : Target → ℕ). AllByRecursion (λ k. is_touched run k ≡ false → status_of k.card old ≡ Some (is_active_by n k.deck k.view))
        (counted_cards new)) (sym (before_is old new cache run between))
        (subst (λ cs. AllByRecursion (λ k. is_touched cs k ≡ false → status_of k.card old ≡ Some (is_active_by (live_count old) k.deck k.view))
        (counted_cards new)) (sym between.touched) (untouched_was old new between.before between.goes_on))

    both : (ks : List CountedCardView) → AllByRecursion Was ks → AllByRecursion (HasStatus new (live_count new)) ks →
        AllByRecursion (HadStatus new (is_due (is_touched run) before (live_count new)) (kept_status cache.states)) ks
    both [] w has = tt
    both (k ∷ ks) w has = (
      (λ undue. let parts = or_parts (is_touched run k) (is_reached before (live_count new) k.deck k.view) undue in
          between.right.status k.card ∙ w.0 parts.0 ∙ ap Some (same_active before (live_count new) k.deck k.view parts.1) ∙ sym has.0),
      both ks w.1 has.1,
    )

-- each card that is new or differs in status is examined
least : (old new : LibraryView) (before : Target → ℕ) (run : List CardRef) (ks : List CountedCardView) →
    AllByRecursion (λ k. is_touched run k ≡ false → status_before old k.view ≡ Some (is_active_by before k.deck k.view)) ks →
    length (filter (λ k. is_other (is_active (live_targets new) k.deck k.view) (status_before old k.view)) ks) ≤ length
    (filter (is_due (is_touched run) before (live_count new)) ks)
least old new before run [] was = omega arith
least old new before run (k ∷ ks) was = go (is_due (is_touched run) before (live_count new) k) refl
    (is_other (is_active (live_targets new) k.deck k.view) (status_before old k.view)) refl (least old new before run ks was.1)
  where
    rest : List CountedCardView
    rest = filter (λ k. is_other (is_active (live_targets new) k.deck k.view) (status_before old k.view)) ks

    same_not : (b : Bool) → is_other b (Some b) ≡ false
    same_not true = refl
    same_not false = refl

    go : (d : Bool) → is_due (is_touched run) before (live_count new) k ≡ d → (o : Bool) →
        is_other (is_active (live_targets new) k.deck k.view) (status_before old k.view) ≡ o →
        length rest ≤ length (filter (is_due (is_touched run) before (live_count new)) ks) →
        length (filter (λ k. is_other (is_active (live_targets new) k.deck k.view) (status_before old k.view)) (k ∷ ks)) ≤ length
        (filter (is_due (is_touched run) before (live_count new)) (k ∷ ks))
    go true e true f later = rw (e, f) (omega arith)
    go true e false f later = rw (e, f) (omega arith)
    go false e false f later = rw (e, f) later
    go false e true f later =
        let parts = or_parts (is_touched run k) (is_reached before (live_count new) k.deck k.view) e in
        let status = was.0 parts.0 ∙ ap Some (same_active before (live_count new) k.deck k.view parts.1
        ∙ sym (status_is (live_cards new.yanks) k.deck k.view)) in
        absurd (let q = sym f ∙ ap (is_other (is_active (live_targets new) k.deck k.view)) status ∙ same_not (is_active (live_targets new) k.deck k.view) in cc)

-- no more cards are new or differ in status than are affected
pub least_affected : (old new : LibraryView) → IsSound old → Continues old.idents new.idents →
    length (altered old new) ≤ length (affected (touched old new) old new)
least_affected old new before goes_on =
    least old new (live_count old) (touched old new) (counted_cards new)
    (all_counted (λ k. is_touched (touched old new) k ≡ false → status_before old k.view ≡ Some (is_active_by (live_count old) k.deck k.view)) new
    (λ d c in_decks in_cards. untouched_before old new d c before in_decks in_cards))

pub least_work : (old new : LibraryView) (cache : CacheView) (run : List CardRef) → IsRunBetween old new cache run →
    length (altered old new) ≤ length (affected run old new)
least_work old new cache run between =
    subst (λ cs. length (altered old new) ≤ length (affected cs old new)) (sym between.touched) (least_affected old new between.before between.goes_on)

-- ---- what a status update is

-- yank cards of a sound library are countable
pub countable : (l : LibraryView) → IsSound l → length l.yanks < 2 ^ 32 → AreCountable l.yanks
countable l sound few = record { few = few; apart = sound.targets }

-- What is seen of a library whose cards may not all be loaded: the yank cards, and the others where none is left out; if some are, a card
-- without a status had none before.
pub record IsSeen (known : CardRef → Option Bool) (l : LibraryView) (rest : ℕ) (ys os : List CountedCardView) : Type 0 where
  pub yanks : ys ≡ yanks_of l
  pub others : rest ≡ 0 → os ≡ others_of l
  pub staying : (rest ≡ 0 → ⊥) → (card : CardRef) → status_of card l ≡ None → known card ≡ None

-- where all that was known stays, each card that isn't found had its status
all_stay : (l : LibraryView) (due : CountedCardView → Bool) (known : CardRef → Option Bool) (found statuses : List (CardRef × Bool)) → IsSound l →
    AllByRecursion (λ p. status_of p.0 l ≡ Some p.1) found → AllByRecursion (HadStatus l due known) (counted_cards l) →
    AllByRecursion (IsListed due found) (counted_cards l) → ((card : CardRef) → status_of card l ≡ None → known card ≡ None) →
    ((r : CardRef) → kept_status statuses r ≡ update_all same_ref known found r) → (r : CardRef) → kept_status statuses r ≡ status_of r l
all_stay l due known found statuses sound right had listed staying put r =
    put r ∙ put_all l found known r right (λ none. go none (status_of r l) refl)
  where
    go : is_found found r ≡ false → (o : Option Bool) → status_of r l ≡ o → known r ≡ status_of r l
    go none None e = staying r e ∙ sym e
    go none (Some s) e = unfound_stayed l due known found r sound had listed none (ap is_some e)

-- statuses with what is found added are those of the library
put_right : (run was : CountedCardView → Bool) (before : Target → ℕ) (known : CardRef → Option Bool) (l : LibraryView) (rest : ℕ)
    (ys os : List CountedCardView) (found statuses : List (CardRef × Bool)) →
    IsKnown run was before known l → found ≡ found_of_all run was before l → IsSeen known l rest ys os → ArePut known rest ys os found statuses →
    (r : CardRef) → kept_status statuses r ≡ status_of r l
put_right run was before known l rest ys os found statuses is found_all seen (inr (none, put)) r =
    put r ∙ (λ i. update_all same_ref (stay known (seen.others none i) (stay known (seen.yanks i) (λ _. None))) ((found_all
    ∙ found_is run was before known l is) i) r)
    ∙ statuses_right run was before known l r is
put_right run was before known l rest ys os found statuses is found_all seen (inl (many, put)) r = go rest refl
  where
    all : found ≡ found_back run before (live_count l) (yanks_of l) ++ found_others run before (live_count l) (others_of l)
    all = found_all ∙ found_is run was before known l is

    due : CountedCardView → Bool
    due = is_due run before (live_count l)

    right : AllByRecursion (λ p. status_of p.0 l ≡ Some p.1) found
    right = subst (AllByRecursion (λ p. status_of p.0 l ≡ Some p.1)) (sym all) (found_right run was before known l is).0

    listed : AllByRecursion (IsListed due found) (counted_cards l)
    listed = subst (λ found. AllByRecursion (IsListed due found) (counted_cards l)) (sym all) (found_right run was before known l is).1

    go : (n : ℕ) → rest ≡ n → kept_status statuses r ≡ status_of r l
    go zero none =
        let same : length ys + length os ≡ length (counted_cards l) = (λ i. length (seen.yanks i) + length (seen.others none i))
        ∙ sym (length-append (yanks_of l) (others_of l)) in
        whole_right l due known found statuses is.sound right is.had listed (many none ∙ same) put r
    go (suc n) some = all_stay l due known found statuses is.sound right is.had listed (seen.staying (λ none. absurd (omega (arith, some, none)))) put r

-- what the code has left is right of the library
pub left_right : (run was : CountedCardView → Bool) (before : Target → ℕ) (known : CardRef → Option Bool) (l : LibraryView) (rest : ℕ)
    (ys os : List CountedCardView) (found : List (CardRef × Bool)) (cache : CacheView) →
    IsKnown run was before known l → found ≡ found_of_all run was before l →
    ((t : Target) → count_in cache.counts t ≡ count_on (live_now run was before (yanks_of l)) t) →
    IsSeen known l rest ys os → ArePut known rest ys os found cache.states → IsRight l cache
left_right run was before known l rest ys os found cache is found_all counts seen statuses = record {
  status = put_right run was before known l rest ys os found cache.states is found_all seen statuses;
  count = λ t. counts t ∙ ap (λ cards. count_on cards t) (live_is run was before known l is);
}

-- as many cards are examined as are affected
pub left_work : (old new : LibraryView) (cache : CacheView) (run : List CardRef) (found : List (CardRef × Bool)) → IsRunBetween old new cache run →
    found ≡ found_of_all (is_touched run) (was_active cache.states) (count_in cache.counts) new → length found ≡ length (affected run old new)
left_work old new cache run found between found_all =
    let known = known_between old new cache run between in
    ap length (found_all ∙ found_is (is_touched run) (was_active cache.states) (count_in cache.counts) (kept_status cache.states) new known)
    ∙ found_count (is_touched run) (count_in cache.counts) (live_count new) new
    ∙ ap (λ (n : Target → ℕ). length (filter (is_due (is_touched run) n (live_count new)) (counted_cards new))) (before_is old new cache run between)

-- where each card is touched, nothing needs to be known
pub known_anew : (run was : CountedCardView → Bool) (before : Target → ℕ) (known : CardRef → Option Bool) (l : LibraryView) → IsSound l →
    AllByRecursion (λ k. run k ≡ true) (counted_cards l) → IsKnown run was before known l
known_anew run was before known l sound all = record {
  sound = sound;
  kept = all_map (λ k. run k ≡ true) (IsRightBefore run was before) (counted_cards l)
      (λ k h. record { status = λ none. absurd (let q = sym h ∙ none in cc) }) all;
  had = all_map (λ k. run k ≡ true) (HadStatus l (is_due run before (live_count l)) known) (counted_cards l)
      (λ k h. λ none. absurd (let q = sym h ∙ (or_parts (run k) (is_reached before (live_count l) k.deck k.view) none).0 in cc)) all;
}

-- ---- what a status update is, on a library that shows it

module _ (old new l : LibraryView) (cache : CacheView) (run set : List CardRef) (found : List (CardRef × Bool)) (sees : Sees run old new l)
    (between : IsRunBetween old new cache run) (same : (r : CardRef) → list_any (same_ref r) set ≡ list_any (same_ref r) run)
    (found_all : AreCountable l.yanks → found ≡ found_of_all (is_touched set) (was_active cache.states) (count_in cache.counts) l) where
  abbrev pub was : CountedCardView → Bool
  was = was_active cache.states

  abbrev pub before : Target → ℕ
  before = count_in cache.counts

  known : IsKnown (is_touched run) was before (kept_status cache.states) new
  known = known_between old new cache run between

  fits : AreCountable l.yanks
  fits = subst AreCountable (sym sees.yanks) (countable new between.after between.few)

  touched_same : is_touched set ≡ is_touched run
  touched_same = λ i k. same k.card i

  yanks_seen : yanks_of l ≡ yanks_of new
  yanks_seen = λ i. map (counted_card (sees.idents i) 0) (sees.yanks i)

  live_seen : count_on (live_now (is_touched run) was before (yanks_of new)) ≡ live_count new
  live_seen = ap count_on (live_is (is_touched run) was before (kept_status cache.states) new known)

  -- the cards that are due are those of the library after the run
  others_seen : found_others (is_touched run) before (live_count new) (others_of l) ≡ found_others (is_touched run) before (live_count new) (others_of new)
  others_seen = ap (map (found_of (live_count new))) (subst (λ (n : Target → ℕ). filter (is_due (is_touched run) n (live_count new)) (others_of l)
      ≡ filter (is_due (is_touched run) n (live_count new)) (others_of new)) (sym (before_is old new cache run between)) sees.due)

  found_seen : found ≡ found_of_all (is_touched run) was before new
  found_seen =
      found_all fits ∙ (λ i. found_of_all (touched_same i) was before l)
      ∙ (λ i. found_yanks (is_touched run) was before (yanks_seen i)
      ++ found_others (is_touched run) before (count_on (live_now (is_touched run) was before (yanks_seen i))) (others_of l))
      ∙ (λ i. found_yanks (is_touched run) was before (yanks_of new) ++ found_others (is_touched run) before (live_seen i) (others_of l))
      ∙ ap (λ o. found_yanks (is_touched run) was before (yanks_of new) ++ o) others_seen
      ∙ sym (λ i. found_yanks (is_touched run) was before (yanks_of new) ++ found_others (is_touched run) before (live_seen i) (others_of new))

  seen : IsSeen (kept_status cache.states) new l.rest.cards (yanks_of l) (others_of l)
  seen = record {
    yanks = yanks_seen;
    others = sees.others;
    staying = λ some card none. between.right.status card ∙ sees.staying some card none;
  }

  pub updated_right : (left : CacheView) →
      (AreCountable l.yanks → (t : Target) → count_in left.counts t ≡ count_on (live_now (is_touched set) was before (yanks_of l)) t) →
      ArePut (kept_status cache.states) l.rest.cards (yanks_of l) (others_of l) found left.states →
      IsRight new left × (length found ≡ length (affected run old new))
  updated_right left counts statuses = (
    left_right (is_touched run) was before (kept_status cache.states) new l.rest.cards (yanks_of l) (others_of l) found left known found_seen
        (λ t. counts fits t ∙ (λ i. count_on (live_now (touched_same i) was before (yanks_seen i)) t)) seen statuses,
    left_work old new cache run found between found_seen,
  )

  -- the row changes of a status update
  pub updates_found : (left : CacheView) (changes : List ChangeView) → IsRight new left → TakeGone old new changes →
      IsSettled old new cache.states found left.states changes cache.counts left.counts
  updates_found left changes right taken =
      let all = found_seen ∙ found_is (is_touched run) was before (kept_status cache.states) new known in
      let both = found_right (is_touched run) was before (kept_status cache.states) new known in
      let due = is_due (is_touched run) before (live_count new) in
      let listed = subst (λ found. AllByRecursion (IsListed due found) (counted_cards new)) (sym all) both.1 in
      record {
        before = between.right.status;
        right = subst (AllByRecursion (λ p. status_of p.0 new ≡ Some p.1)) (sym all) both.0;
        after = right.status;
        stayed = λ r none there. unfound_stayed new due (kept_status cache.states) found r between.after known.had listed none there;
        counted = between.right.count;
        counts = right.count;
        taken = taken;
      }

-- each card of a library is among its own
pub all_touched : (l : LibraryView) (none first set : List CardRef) (ys os : List CountedCardView) → ys ≡ yanks_of l → os ≡ others_of l →
    ((r : CardRef) → list_any (same_ref r) first ≡ (list_any (same_ref r) none || list_any (λ k. same_ref r k.card) ys)) →
    ((r : CardRef) → list_any (same_ref r) set ≡ (list_any (same_ref r) first || list_any (λ k. same_ref r k.card) os)) →
    AllByRecursion (λ k. is_touched set k ≡ true) (counted_cards l)
all_touched l none first set ys os yanks others one two =
    all_both (λ k. is_touched set k ≡ true) (yanks_of l) (others_of l)
    (all_by_index (yanks_of l) (λ i k at. two k.card ∙ ap (λ b. b || list_any (λ x. same_ref k.card x.card) os) (one k.card
    ∙ later (list_any (same_ref k.card) none) (list_any (λ x. same_ref k.card x.card) ys)
    (ap (list_any (λ x. same_ref k.card x.card)) yanks ∙ any_of (λ x. same_ref k.card x.card) (yanks_of l) i k at (same_ref_own k.card)))))
    (all_by_index (others_of l) (λ i k at. two k.card ∙ later (list_any (same_ref k.card) first) (list_any (λ x. same_ref k.card x.card) os)
    (ap (list_any (λ x. same_ref k.card x.card)) others ∙ any_of (λ x. same_ref k.card x.card) (others_of l) i k at (same_ref_own k.card))))
  where
    later : (a b : Bool) → b ≡ true → (a || b) ≡ true
    later true b e = refl
    later false b e = e

-- a library from nothing
pub built_right : (l : LibraryView) (set : List CardRef) (states : List (CardRef × Bool)) (counts : List (Target × ℕ)) (found : List (CardRef × Bool))
    (left : CacheView) → IsSound l → length l.yanks < 2 ^ 32 → states ≡ [] →
    AllByRecursion (λ k. is_touched set k ≡ true) (counted_cards l) →
    (AreCountable l.yanks → (t : Target) → count_in left.counts t ≡ count_on (live_now (is_touched set) (was_active states) (count_in counts) (yanks_of l)) t) →
    (AreCountable l.yanks → found ≡ found_of_all (is_touched set) (was_active states) (count_in counts) l) →
    ArePut (kept_status states) l.rest.cards (yanks_of l) (others_of l) found left.states → IsRight l left
built_right l set states counts found left sound few nothing all known_counts found_all statuses =
    let fits = countable l sound few in
    left_right (is_touched set) (was_active states) (count_in counts) (kept_status states) l l.rest.cards (yanks_of l) (others_of l) found left
    (known_anew (is_touched set) (was_active states) (count_in counts) (kept_status states) l sound all)
    (found_all fits) (known_counts fits)
    (record { yanks = refl; others = λ _. refl; staying = λ some card none. ap (λ s. kept_status s card) nothing }) statuses
