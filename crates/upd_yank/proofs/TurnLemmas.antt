-- One more card of `YANK$$$`: the counts and what is found, from the youngest card down to it.
use Rattle.upd_yank.proofs.Common.{◌≡◌, ℕ, ◌+◌, ◌<◌, ◌≤◌, ◌^◌, ◌-◌, Bool, true, false, ◌||◌, if◌then◌else◌, List, [], ◌∷◌, ◌++◌, length, drop, get_or, refl}
use Rattle.upd_yank.proofs.Common.{ap, sym, ◌∙◌, append-nil, length-append, arith, list_any, AllByRecursion, length-map, sum_by-cons, same_target}
use Rattle.upd_yank.proofs.Common.{CountedCardView, CountedView, Target, CardView, AreApart, count_on, has_target, is_same, CardRef, found_of, found_others}
use Rattle.upd_yank.proofs.Common.{found_yanks, is_due, live_now, status_now, views, AreCountable}
use Rattle.std.proofs.Common.{min, count_by, append_assoc}
use Rattle.std.proofs.lemmas.List.{drop_more, length-drop}
use Rattle.upd_core.specs.Counted.{one_more}
use Rattle.upd_yank.proofs.FlipLemmas.{count_cons}

-- ---- targets that differ count once

none_same : (t u : Target) (ts : List Target) → is_same t u ≡ true → AllByRecursion (λ v. u ≡ v → ⊥) ts → count_by (is_same t) ts ≡ 0
none_same t u [] e apart = refl
none_same t u (v ∷ ts) e apart = go (is_same t v) refl (none_same t u ts e apart.1)
  where
    go : (b : Bool) → is_same t v ≡ b → count_by (is_same t) ts ≡ 0 → count_by (is_same t) (v ∷ ts) ≡ 0
    go true f later = absurd (apart.0 (sym (same_target t u e) ∙ same_target t v f))
    go false f later =
        let n : count_by (is_same t) (v ∷ ts) ≡ 0 + count_by (is_same t) ts = sum_by-cons (λ x. if is_same t x then 1 else 0) v ts
        ∙ ap (λ b. (if b then 1 else 0) + count_by (is_same t) ts) f in
        omega arith

pub once_apart : (t : Target) (ts : List Target) → AreApart ts → count_by (is_same t) ts ≡ (if list_any (is_same t) ts then 1 else 0)
once_apart t [] apart = refl
once_apart t (u ∷ ts) apart = go (is_same t u) refl (once_apart t ts apart.1)
  where
    cons : count_by (is_same t) (u ∷ ts) ≡ (if is_same t u then 1 else 0) + count_by (is_same t) ts
    cons = sum_by-cons (λ x. if is_same t x then 1 else 0) u ts

    go : (b : Bool) → is_same t u ≡ b → count_by (is_same t) ts ≡ (if list_any (is_same t) ts then 1 else 0) →
        count_by (is_same t) (u ∷ ts) ≡ (if is_same t u || list_any (is_same t) ts then 1 else 0)
    go true e later =
        let n : count_by (is_same t) (u ∷ ts) ≡ 1 + count_by (is_same t) ts = cons ∙ ap (λ b. (if b then 1 else 0) + count_by (is_same t) ts) e in
        let one : count_by (is_same t) (u ∷ ts) ≡ 1 = omega (arith, none_same t u ts e apart.0) in
        one ∙ sym (ap (λ b. if b || list_any (is_same t) ts then 1 else 0) e)
    go false e later =
        let n : count_by (is_same t) (u ∷ ts) ≡ 0 + count_by (is_same t) ts = cons ∙ ap (λ b. (if b then 1 else 0) + count_by (is_same t) ts) e in
        let same : count_by (is_same t) (u ∷ ts) ≡ count_by (is_same t) ts = omega arith in
        same ∙ later ∙ sym (ap (λ b. if b || list_any (is_same t) ts then 1 else 0) e)

-- ---- counts stay small

count-le : (cards : List CardView) (t : Target) → count_on cards t ≤ length cards
count-le [] t = omega arith
count-le (c ∷ cs) t = go (has_target t c) refl (count-le cs t)
  where
    go : (b : Bool) → has_target t c ≡ b → count_on cs t ≤ length cs → count_on (c ∷ cs) t ≤ length (c ∷ cs)
    go true e later =
        let n : count_on (c ∷ cs) t ≡ 1 + count_on cs t = count_cons c cs t ∙ ap (λ b. (if b then 1 else 0) + count_on cs t) e in omega arith
    go false e later =
        let n : count_on (c ∷ cs) t ≡ 0 + count_on cs t = count_cons c cs t ∙ ap (λ b. (if b then 1 else 0) + count_on cs t) e in omega arith

live_now-le : (touched was : CountedCardView → Bool) (before : Target → ℕ) (ks : List CountedCardView) → length (live_now touched was before ks) ≤ length ks
live_now-le touched was before [] = omega arith
live_now-le touched was before (k ∷ ks) =
    go (status_now touched was before (count_on (live_now touched was before ks)) k) (live_now touched was before ks) (live_now-le touched was before ks)
  where
    go : (b : Bool) (later : List CardView) → length later ≤ length ks → length (if b then k.view ∷ later else later) ≤ length (k ∷ ks)
    go true later h = omega arith
    go false later h = omega arith

-- ---- the step at a card

one_or_none : (b : Bool) → (if b then 1 else 0) ≤ 1
one_or_none true = omega arith
one_or_none false = omega arith

-- the counts f so far become g once the card k, the next one down, is examined
counted_more : (touched was : CountedCardView → Bool) (before f g : Target → ℕ) (k : CountedCardView) (ks : List CountedCardView) →
    length (k ∷ ks) < 2 ^ 32 → AreApart k.view.targets →
    ((t : Target) → f t ≡ count_on (live_now touched was before ks) t) →
    ((t : Target) → f t + count_by (is_same t) k.view.targets < 2 ^ 32 → g t
    ≡ f t + (if status_now touched was before f k then count_by (is_same t) k.view.targets else 0)) →
    (t : Target) → g t ≡ count_on (live_now touched was before (k ∷ ks)) t
counted_more touched was before f g k ks few apart so_far turned t =
    go (status_now touched was before (count_on live) k) (ap (λ (h : Target → ℕ). status_now touched was before h k) (λ i u. so_far u i))
  where
    live : List CardView
    live = live_now touched was before ks

    once : count_by (is_same t) k.view.targets ≡ (if has_target t k.view then 1 else 0)
    once = once_apart t k.view.targets apart

    small : f t + count_by (is_same t) k.view.targets < 2 ^ 32
    small = omega (arith, so_far t, count-le live t, live_now-le touched was before ks, once, one_or_none (has_target t k.view))

    go : (b : Bool) → status_now touched was before f k ≡ b → g t ≡ count_on (if b then k.view ∷ live else live) t
    go true e =
        let n : g t ≡ f t + count_by (is_same t) k.view.targets = turned t small ∙ ap (λ b. f t + (if b then count_by (is_same t) k.view.targets else 0)) e in
        omega (arith, so_far t, once, count_cons k.view live t)
    go false e =
        let n : g t ≡ f t + 0 = turned t small ∙ ap (λ b. f t + (if b then count_by (is_same t) k.view.targets else 0)) e in
        omega (arith, so_far t)

-- the next card down
pub next_down : {A : Type 0} (ks : List A) (i : ℕ) (d k : A) → i < length ks → k ≡ get_or ks i d → drop i ks ≡ k ∷ drop (i + 1) ks
next_down ks i d k within read = drop_more ks i d within ∙ ap (λ x. x ∷ drop (i + 1) ks) (sym read)

apart_of : (ks : List CountedCardView) (i : ℕ) (d : CountedCardView) → i < length ks → AllByRecursion (λ c. AreApart c.targets) (views ks) →
    AreApart (get_or ks i d).view.targets
apart_of [] i d within apart = absurd (omega arith)
apart_of (k ∷ ks) Prim.Native.Nat.zero d within apart = apart.0
apart_of (k ∷ ks) (Prim.Native.Nat.suc i) d within apart = apart_of ks i d (omega arith) apart.1

pub turned_counts : (touched was : CountedCardView → Bool) (before f g : Target → ℕ) (ks : List CountedCardView) (i : ℕ) (d k : CountedCardView) →
    i < length ks → k ≡ get_or ks i d → AreCountable (views ks) →
    ((t : Target) → f t ≡ count_on (live_now touched was before (drop (i + 1) ks)) t) →
    ((t : Target) → f t + count_by (is_same t) k.view.targets < 2 ^ 32 → g t
    ≡ f t + (if status_now touched was before f k then count_by (is_same t) k.view.targets else 0)) →
    (t : Target) → g t ≡ count_on (live_now touched was before (drop i ks)) t
turned_counts touched was before f g ks i d k within read countable so_far turned t =
    let next = next_down ks i d k within read in
    let few : length (k ∷ drop (i + 1) ks) < 2 ^ 32 = omega (
      arith,
      countable.few,
      length-map ks (λ (k : CountedCardView). k.view),
      length-drop i ks,
      ap length
          next,
    ) in
    let apart : AreApart k.view.targets = rw read (apart_of ks i d within countable.apart) in
    counted_more touched was before f g k (drop (i + 1) ks) few apart so_far turned t
    ∙ sym (ap (λ x. count_on (live_now touched was before x) t) next)

pub turned_found : (touched was : CountedCardView → Bool) (before f : Target → ℕ) (ks : List CountedCardView) (i : ℕ) (d k : CountedCardView)
    (found now : List (CardRef × Bool)) →
    i < length ks → k ≡ get_or ks i d →
    ((t : Target) → f t ≡ count_on (live_now touched was before (drop (i + 1) ks)) t) →
    found ≡ found_yanks touched was before (drop (i + 1) ks) →
    now ≡ found ++ (if is_due touched before f k then found_of f k ∷ [] else []) → now ≡ found_yanks touched was before (drop i ks)
turned_found touched was before f ks i d k found now within read counts so_far is =
    let next = next_down ks i d k within read in
    let settled_counts : f ≡ count_on (live_now touched was before (drop (i + 1) ks)) = λ j t. counts t j in
    is ∙ (λ j. so_far j ++ (if is_due touched before (settled_counts j) k then found_of (settled_counts j) k ∷ [] else []))
    ∙ sym (ap (found_yanks touched was before) next)

-- what is found of the other cards, one card more
pub others_more : (touched : CountedCardView → Bool) (before now : Target → ℕ) (ks : List CountedCardView) (i : ℕ) (d k : CountedCardView)
    (found more whole : List (CardRef × Bool)) →
    i < length ks → k ≡ get_or ks i d → more ≡ found ++ (if is_due touched before now k then found_of now k ∷ [] else []) →
    found ++ found_others touched before now (drop i ks) ≡ whole → more ++ found_others touched before now (drop (i + 1) ks) ≡ whole
others_more touched before now ks i d k found more whole within read is so_far =
    ap (λ x. x ++ rest) is ∙ append_assoc found (if is_due touched before now k then found_of now k ∷ [] else []) rest
    ∙ ap (λ x. found ++ x) (here (is_due touched before now k) refl)
    ∙ sym (ap (λ x. found ++ found_others touched before now x) (next_down ks i d k within read)) ∙ so_far
  where
    rest : List (CardRef × Bool)
    rest = found_others touched before now (drop (i + 1) ks)

    here : (b : Bool) → is_due touched before now k ≡ b → (if is_due touched before now k then found_of now k ∷ [] else []) ++ rest
        ≡ found_others touched before now (k ∷ drop (i + 1) ks)
    here true e = rw e refl
    here false e = rw e refl

-- one read more where one more is found
pub read_more : (due : Bool) (old new : CountedView) (found now : List (CardRef × Bool)) (p : CardRef × Bool) → new ≡ (if due then one_more old else old) →
    now ≡ found ++ (if due then p ∷ [] else []) → (old.histories_read + 1 < 2 ^ 64 → new.histories_read + length found ≡ old.histories_read + length now)
    × (length now ≤ length found + 1)
read_more true old new found now p reads is =
    let n : length now ≡ length found + 1 = ap length is ∙ length-append found (p ∷ []) in
    let r : new.histories_read ≡ min (old.histories_read + 1) (2 ^ 64 - 1) = ap (λ (c : CountedView). c.histories_read) reads in
    ((λ small. omega arith), omega arith)
read_more false old new found now p reads is =
    let n : length now ≡ length found = ap length is ∙ ap length (append-nil found) in
    let r : new.histories_read ≡ old.histories_read = ap (λ (c : CountedView). c.histories_read) reads in
    ((λ small. omega arith), omega arith)
