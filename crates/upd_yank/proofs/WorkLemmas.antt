-- What is found of `YANK$$$` on the way agrees with the final counts: whatever can take an entry of a card is younger than the card.
use Rattle.upd_yank.proofs.Common.{◌≡◌, ℕ, ◌≤◌, Bool, true, false, not, ◌&&◌, ◌||◌, if◌then◌else◌, List, [], ◌∷◌, ◌++◌, length, Some, refl, ap, sym, ◌∙◌}
use Rattle.upd_yank.proofs.Common.{subst, arith, length-append, append-nil, ◌==◌, list_any, filter, AllByRecursion, ne_eqb, or_left, or_right}
use Rattle.upd_yank.proofs.Common.{list_any-append, Entry, Target, Set, SetIn, Deck, CountedCardView, CardView, LibraryView, is_flipped, is_retaken}
use Rattle.upd_yank.proofs.Common.{is_reached, IsAged, live_cards, status_of, count_on, is_same, same_ref, CardRef, same_ref_own, AreYanks, IsRightBefore}
use Rattle.upd_yank.proofs.Common.{TakesNoYanks, found_of, found_others, found_yanks, is_active_by, is_due, is_taken_by, live_now, views}
use Rattle.upd_core.specs.Status.{HasEntriesFrom, TakesOlder}
use Rattle.upd_yank.proofs.FlipLemmas.{same_stays}
use Rattle.upd_yank.proofs.SettleLemmas.{count_behind, settled_is}

-- ---- lists

pub all_map : {A : Type 0} (P Q : A → Type 0) (xs : List A) → ((x : A) → P x → Q x) → AllByRecursion P xs → AllByRecursion Q xs
all_map P Q [] f all = tt
all_map P Q (x ∷ xs) f all = (f x all.0, all_map P Q xs f all.1)

pub all_both : {A : Type 0} (P : A → Type 0) (xs ys : List A) → AllByRecursion P xs → AllByRecursion P ys → AllByRecursion P (xs ++ ys)
all_both P [] ys front back = back
all_both P (x ∷ xs) ys front back = (front.0, all_both P xs ys front.1 back)

-- ---- targets that are older

older_set : (age z : ℕ) (ts : List Target) → age ≤ z → AllByRecursion (TakesOlder age) ts → list_any (is_same (Set z)) ts ≡ false
older_set age z [] young older = refl
older_set age z (Set a ∷ ts) young older = rw (ne_eqb z a (λ e. omega (arith, older.0.1))) (older_set age z ts young older.1)
older_set age z (SetIn a d ∷ ts) young older = older_set age z ts young older.1
older_set age z (Deck d ∷ ts) young older = older_set age z ts young older.1

older_set_in : (age z f : ℕ) (ts : List Target) → age ≤ z → AllByRecursion (TakesOlder age) ts → list_any (is_same (SetIn z f)) ts ≡ false
older_set_in age z f [] young older = refl
older_set_in age z f (Set a ∷ ts) young older = older_set_in age z f ts young older.1
older_set_in age z f (SetIn a d ∷ ts) young older = rw (ne_eqb z a (λ e. omega (arith, older.0.0.1))) (older_set_in age z f ts young older.1)
older_set_in age z f (Deck d ∷ ts) young older = older_set_in age z f ts young older.1

no_deck_zero : (age : ℕ) (ts : List Target) → AllByRecursion (TakesOlder age) ts → list_any (is_same (Deck 0)) ts ≡ false
no_deck_zero age [] older = refl
no_deck_zero age (Set a ∷ ts) older = no_deck_zero age ts older.1
no_deck_zero age (SetIn a d ∷ ts) older = no_deck_zero age ts older.1
no_deck_zero age (Deck d ∷ ts) older = rw (ne_eqb 0 d (λ e. omega (arith, older.0.0))) (no_deck_zero age ts older.1)

pub takes_no_yanks : (ys : List CardView) → IsAged ys → TakesNoYanks ys
takes_no_yanks [] aged = tt
takes_no_yanks (y ∷ ys) aged = (no_deck_zero y.ident y.targets aged.0, takes_no_yanks ys aged.2)

-- ---- counts that agree on what a card has

-- counts agree with the final counts on a card of `YANK$$$`
pub record Agrees (final now : Target → ℕ) (c : CardView) : Type 0 where
  pub entries : AllByRecursion (λ e. (now (Set e.ident) ≡ final (Set e.ident)) × (now (SetIn e.ident 0) ≡ final (SetIn e.ident 0))) c.history
  pub deck : now (Deck 0) ≡ final (Deck 0)

agree_refl : (now : Target → ℕ) (c : CardView) → Agrees now now c
agree_refl now c = record { entries = all c.history; deck = refl }
  where
    all : (es : List Entry) → AllByRecursion (λ e. (now (Set e.ident) ≡ now (Set e.ident)) × (now (SetIn e.ident 0) ≡ now (SetIn e.ident 0))) es
    all [] = tt
    all (e ∷ es) = ((refl, refl), all es)

pub all_agree : (now : Target → ℕ) (cs : List CardView) → AllByRecursion (Agrees now now) cs
all_agree now [] = tt
all_agree now (c ∷ cs) = (agree_refl now c, all_agree now cs)

reached_same : (before now final : Target → ℕ) (c : CardView) → Agrees final now c → is_reached before now 0 c ≡ is_reached before final 0 c
reached_same before now final c agrees = λ i. entries c.history agrees.entries i || is_flipped_at i
  where
    flip : (t : Target) → now t ≡ final t → is_flipped before now t ≡ is_flipped before final t
    flip t e = ap (λ n. is_flipped (λ _. before t) (λ _. n) t) e

    is_flipped_at : is_flipped before now (Deck 0) ≡ is_flipped before final (Deck 0)
    is_flipped_at = flip (Deck 0) agrees.deck

    entries : (es : List Entry) → AllByRecursion (λ e. (now (Set e.ident) ≡ final (Set e.ident)) × (now (SetIn e.ident 0) ≡ final (SetIn e.ident 0))) es →
        list_any (is_retaken before now 0) es ≡ list_any (is_retaken before final 0) es
    entries [] all = refl
    entries (e ∷ es) all = let rest = entries es all.1 in λ i. (flip (Set e.ident) all.0.0 i || flip (SetIn e.ident 0) all.0.1 i) || rest i

active_same : (now final : Target → ℕ) (c : CardView) → Agrees final now c → is_active_by now 0 c ≡ is_active_by final 0 c
active_same now final c agrees =
    let stays = same_stays (is_taken_by now 0) (is_taken_by final 0) c.history (entries c.history agrees.entries) in
    λ i. stays i && (agrees.deck i == 0)
  where
    entries : (es : List Entry) → AllByRecursion (λ e. (now (Set e.ident) ≡ final (Set e.ident)) × (now (SetIn e.ident 0) ≡ final (SetIn e.ident 0))) es →
        AllByRecursion (λ e. is_taken_by now 0 e.ident ≡ is_taken_by final 0 e.ident) es
    entries [] all = tt
    entries (e ∷ es) all = ((λ i. not (all.0.0 i == 0) || not (all.0.1 i == 0)), entries es all.1)

-- on cards that are no older than y, the cards after y agree with the cards from y on
agree_behind : (final : Target → ℕ) (y : CardView) (ys : List CardView) (c : CardView) → IsAged (y ∷ ys) → HasEntriesFrom y.ident c →
    Agrees final (count_on (live_cards (y ∷ ys))) c → Agrees final (count_on (live_cards ys)) c
agree_behind final y ys c aged young agrees = record {
  entries = entries c.history young agrees.entries;
  deck = sym (count_behind y ys (Deck 0) (no_deck_zero y.ident y.targets aged.0)) ∙ agrees.deck;
}
  where
    entries : (es : List Entry) → AllByRecursion (λ e. y.ident ≤ e.ident) es →
        AllByRecursion (λ e. (count_on (live_cards (y ∷ ys)) (Set e.ident) ≡ final (Set e.ident)) ×
        (count_on (live_cards (y ∷ ys)) (SetIn e.ident 0) ≡ final (SetIn e.ident 0))) es →
        AllByRecursion (λ e. (count_on (live_cards ys) (Set e.ident) ≡ final (Set e.ident)) ×
        (count_on (live_cards ys) (SetIn e.ident 0) ≡ final (SetIn e.ident 0))) es
    entries [] young all = tt
    entries (e ∷ es) young all = (
      (
        sym (count_behind y ys (Set e.ident) (older_set y.ident e.ident y.targets young.0 aged.0)) ∙ all.0.0,
        sym (count_behind y ys (SetIn e.ident 0) (older_set_in y.ident e.ident 0 y.targets young.0 aged.0)) ∙ all.0.1,
      ),
      entries es young.1 all.1,
    )

agree_all : (final : Target → ℕ) (y : CardView) (ys cs : List CardView) → IsAged (y ∷ ys) → AllByRecursion (HasEntriesFrom y.ident) cs →
    AllByRecursion (Agrees final (count_on (live_cards (y ∷ ys)))) cs → AllByRecursion (Agrees final (count_on (live_cards ys))) cs
agree_all final y ys [] aged young all = tt
agree_all final y ys (c ∷ cs) aged young all = (agree_behind final y ys c aged young.0 all.0, agree_all final y ys cs aged young.1 all.1)

-- ---- what is found of `YANK$$$`, by the final counts

-- what is found of a card if it is due
abbrev pub found_at : (CountedCardView → Bool) → (Target → ℕ) → (Target → ℕ) → CountedCardView → List (CardRef × Bool)
found_at touched before now k = if is_due touched before now k then found_of now k ∷ [] else []

-- what is found of cards, the last one first
abbrev pub found_back : (CountedCardView → Bool) → (Target → ℕ) → (Target → ℕ) → List CountedCardView → List (CardRef × Bool)
found_back touched before now [] = []
found_back touched before now (k ∷ ks) = found_back touched before now ks ++ found_at touched before now k

same_found : (touched : CountedCardView → Bool) (before now final : Target → ℕ) (k : CountedCardView) → k.deck ≡ 0 → Agrees final now k.view →
    found_at touched before now k ≡ found_at touched before final k
same_found touched before now final k yank agrees =
    let due : is_due touched before now k ≡ is_due touched before final k =
    ap (λ d. touched k || is_reached before now d k.view) yank ∙ ap (λ b. touched k || b) (reached_same before now final k.view agrees)
    ∙ sym (ap (λ d. touched k || is_reached before final d k.view) yank) in
    let active : is_active_by now k.deck k.view ≡ is_active_by final k.deck k.view =
    ap (λ d. is_active_by now d k.view) yank ∙ active_same now final k.view agrees ∙ sym (ap (λ d. is_active_by final d k.view) yank) in
    λ i. if due i then (k.card, active i) ∷ [] else []

pub yanks_found : (touched was : CountedCardView → Bool) (before final : Target → ℕ) (ks : List CountedCardView) → AreYanks ks → IsAged (views ks) →
    AllByRecursion (IsRightBefore touched was before) ks → AllByRecursion (Agrees final (count_on (live_cards (views ks)))) (views ks) →
    found_yanks touched was before ks ≡ found_back touched before final ks
yanks_found touched was before final [] yanks aged kept agrees = refl
yanks_found touched was before final (k ∷ ks) yanks aged kept agrees =
    let live = settled_is touched was before ks yanks.1 (takes_no_yanks (views ks) aged.2) kept.1 in
    let behind = agree_all final k.view (views ks) (k.view ∷ views ks) aged aged.1 agrees in
    let later = yanks_found touched was before final ks yanks.1 aged.2 kept.1 behind.1 in
    let here : found_at touched before (count_on (live_now touched was before ks)) k ≡ found_at touched before final k =
    ap (λ cards. found_at touched before (count_on cards) k) live ∙ same_found touched before (count_on (live_cards (views ks))) final k yanks.0 behind.0 in
    λ i. later i ++ here i

-- ---- how many are found, that they are right, and that each due card is among them

pub length_back : (touched : CountedCardView → Bool) (before now : Target → ℕ) (ks : List CountedCardView) →
    length (found_back touched before now ks) ≡ length (filter (is_due touched before now) ks)
length_back touched before now [] = refl
length_back touched before now (k ∷ ks) = go (is_due touched before now k) refl (length_back touched before now ks)
  where
    go : (b : Bool) → is_due touched before now k ≡ b → length (found_back touched before now ks) ≡ length (filter (is_due touched before now) ks) →
        length (found_back touched before now ks ++ (if is_due touched before now k then found_of now k ∷ [] else []))
        ≡ length (filter (is_due touched before now) (k ∷ ks))
    go true e later = rw e (omega (arith, length-append (found_back touched before now ks) (found_of now k ∷ []), later))
    go false e later = rw (e, append-nil) later

-- what is found is right of a library where its cards have these statuses
abbrev pub HasStatus : LibraryView → (Target → ℕ) → CountedCardView → Type 0
HasStatus l now k = status_of k.card l ≡ Some (is_active_by now k.deck k.view)

right_at : (touched : CountedCardView → Bool) (before now : Target → ℕ) (l : LibraryView) (k : CountedCardView) → HasStatus l now k →
    AllByRecursion (λ p. status_of p.0 l ≡ Some p.1) (found_at touched before now k)
right_at touched before now l k has = go (is_due touched before now k)
  where
    go : (b : Bool) → AllByRecursion (λ p. status_of p.0 l ≡ Some p.1) (if b then found_of now k ∷ [] else [])
    go true = (has, tt)
    go false = tt

pub right_back : (touched : CountedCardView → Bool) (before now : Target → ℕ) (l : LibraryView) (ks : List CountedCardView) →
    AllByRecursion (HasStatus l now) ks →
    AllByRecursion (λ p. status_of p.0 l ≡ Some p.1) (found_back touched before now ks)
right_back touched before now l [] has = tt
right_back touched before now l (k ∷ ks) has =
    all_both (λ p. status_of p.0 l ≡ Some p.1) (found_back touched before now ks) (found_at touched before now k) (right_back touched before now l ks has.1)
    (right_at touched before now l k has.0)

pub right_others : (touched : CountedCardView → Bool) (before now : Target → ℕ) (l : LibraryView) (ks : List CountedCardView) →
    AllByRecursion (HasStatus l now) ks →
    AllByRecursion (λ p. status_of p.0 l ≡ Some p.1) (found_others touched before now ks)
right_others touched before now l [] has = tt
right_others touched before now l (k ∷ ks) has = go (is_due touched before now k) refl (right_others touched before now l ks has.1)
  where
    go : (b : Bool) → is_due touched before now k ≡ b → AllByRecursion (λ p. status_of p.0 l ≡ Some p.1) (found_others touched before now ks) →
        AllByRecursion (λ p. status_of p.0 l ≡ Some p.1) (found_others touched before now (k ∷ ks))
    go true e later = rw e (has.0, later)
    go false e later = rw e later

-- a card is among what is found
abbrev pub is_found : List (CardRef × Bool) → CardRef → Bool
is_found found r = list_any (λ p. same_ref p.0 r) found

abbrev pub IsListed : (CountedCardView → Bool) → List (CardRef × Bool) → CountedCardView → Type 0
IsListed due found k = due k ≡ true → is_found found k.card ≡ true

pub listed_front : (due : CountedCardView → Bool) (xs ys : List (CardRef × Bool)) (k : CountedCardView) → IsListed due xs k → IsListed due (xs ++ ys) k
listed_front due xs ys k listed = λ e. list_any-append (λ p. same_ref p.0 k.card) xs ys ∙ or_left (is_found xs k.card) (is_found ys k.card) (listed e)

pub listed_back : (due : CountedCardView → Bool) (xs ys : List (CardRef × Bool)) (k : CountedCardView) → IsListed due ys k → IsListed due (xs ++ ys) k
listed_back due xs ys k listed = λ e. list_any-append (λ p. same_ref p.0 k.card) xs ys ∙ or_right (is_found xs k.card) (is_found ys k.card) (listed e)

listed_at : (touched : CountedCardView → Bool) (before now : Target → ℕ) (k : CountedCardView) →
    IsListed (is_due touched before now) (found_at touched before now k) k
listed_at touched before now k = λ e. ap (λ b. is_found (if b then found_of now k ∷ [] else []) k.card) e
    ∙ or_left (same_ref k.card k.card) false (same_ref_own k.card)

pub all_listed_back : (touched : CountedCardView → Bool) (before now : Target → ℕ) (ks : List CountedCardView) →
    AllByRecursion (IsListed (is_due touched before now) (found_back touched before now ks)) ks
all_listed_back touched before now [] = tt
all_listed_back touched before now (k ∷ ks) =
    let due = is_due touched before now in (
      listed_back due (found_back touched before now ks) (found_at touched before now k) k (listed_at touched before now k),
      all_map (IsListed due (found_back touched before now ks)) (IsListed due (found_back touched before now (k ∷ ks))) ks
          (λ x h. listed_front due (found_back touched before now ks) (found_at touched before now k) x h) (all_listed_back touched before now ks),
    )

others_cons : (touched : CountedCardView → Bool) (before now : Target → ℕ) (k : CountedCardView) (ks : List CountedCardView) →
    found_at touched before now k ++ found_others touched before now ks ≡ found_others touched before now (k ∷ ks)
others_cons touched before now k ks = go (is_due touched before now k) refl
  where
    go : (b : Bool) → is_due touched before now k ≡ b → found_at touched before now k ++ found_others touched before now ks
        ≡ found_others touched before now (k ∷ ks)
    go true e = rw e refl
    go false e = rw e refl

pub all_listed_others : (touched : CountedCardView → Bool) (before now : Target → ℕ) (ks : List CountedCardView) →
    AllByRecursion (IsListed (is_due touched before now) (found_others touched before now ks)) ks
all_listed_others touched before now [] = tt
all_listed_others touched before now (k ∷ ks) =
    let due = is_due touched before now in
    let here = found_at touched before now k in
    let rest = found_others touched before now ks in
    subst (λ found. AllByRecursion (IsListed due found) (k ∷ ks)) (others_cons touched before now k ks) (
      listed_front due here rest k (listed_at touched before now k),
      all_map (IsListed due rest) (IsListed due (here ++ rest)) ks (λ x h. listed_back due here rest x h) (all_listed_others touched before now ks),
    )
