-- Counts in place of the targets of live cards, and cards that no flipped target reaches.
use Rattle.upd_yank.proofs.Common.{◌≡◌, ℕ, ◌+◌, ◌<◌, Bool, true, false, not, ◌&&◌, ◌||◌, if◌then◌else◌, List, [], ◌∷◌, refl, ap, sym, ◌∙◌, arith, ◌==◌}
use Rattle.upd_yank.proofs.Common.{list_any, filter, AllByRecursion, or_parts, nat_tests, list_any-append, sum_by-cons, Entry, Target, Set, SetIn, Deck}
use Rattle.upd_yank.proofs.Common.{CardView, differs, is_flipped, is_retaken, is_reached, stays_on, is_active, is_good, targets_of, count_on, has_target}
use Rattle.upd_yank.proofs.Common.{is_same, is_taken_by, is_active_by}
use Rattle.upd_core.proofs.TargetLaws.{is_taken-split}
use Rattle.upd_core.specs.Status.{ends_on, is_taken, takes_deck}

-- ---- truths and numbers

pub none_any : {A : Type 0} (test : A → Bool) (xs : List A) → list_any test xs ≡ false → AllByRecursion (λ x. test x ≡ false) xs
none_any test [] e = tt
none_any test (x ∷ xs) e = let p = or_parts (test x) (list_any test xs) e in (p.0, none_any test xs p.1)

same_truths : (a b : Bool) → differs a b ≡ false → a ≡ b
same_truths true true e = refl
same_truths true false e = absurd (cc)
same_truths false true e = absurd (cc)
same_truths false false e = refl

not_not : (b : Bool) → not (not b) ≡ b
not_not true = refl
not_not false = refl

some_there : (n : ℕ) → 0 < n → not (n == 0) ≡ true
some_there n some = grind (arith, nat_tests)

-- ---- counts, and the targets of the cards that are counted

pub count_cons : (c : CardView) (cs : List CardView) (t : Target) → count_on (c ∷ cs) t ≡ (if has_target t c then 1 else 0) + count_on cs t
count_cons c cs t = sum_by-cons (λ x. if has_target t x then 1 else 0) c cs

-- a target is among those of some cards where it is counted on them
pub counted_is : (cs : List CardView) (t : Target) → list_any (is_same t) (targets_of cs) ≡ not (count_on cs t == 0)
counted_is [] t = refl
counted_is (c ∷ cs) t = list_any-append (is_same t) c.targets (targets_of cs) ∙ go (has_target t c) refl (counted_is cs t)
  where
    go : (b : Bool) → has_target t c ≡ b → list_any (is_same t) (targets_of cs) ≡ not (count_on cs t == 0) →
        (has_target t c || list_any (is_same t) (targets_of cs)) ≡ not (count_on (c ∷ cs) t == 0)
    go true e later =
        let n : count_on (c ∷ cs) t ≡ 1 + count_on cs t = count_cons c cs t ∙ ap (λ b. (if b then 1 else 0) + count_on cs t) e in
        ap (λ b. b || list_any (is_same t) (targets_of cs)) e ∙ sym (some_there (count_on (c ∷ cs) t) (omega arith))
    go false e later =
        let n : count_on (c ∷ cs) t ≡ 0 + count_on cs t = count_cons c cs t ∙ ap (λ b. (if b then 1 else 0) + count_on cs t) e in
        let m : count_on (c ∷ cs) t ≡ count_on cs t = omega arith in
        ap (λ b. b || list_any (is_same t) (targets_of cs)) e ∙ later ∙ sym (ap (λ n. not (n == 0)) m)

taken_is : (cs : List CardView) (d z : ℕ) → is_taken (targets_of cs) d z ≡ is_taken_by (count_on cs) d z
taken_is cs d z = is_taken-split (targets_of cs) d z ∙ (λ i. counted_is cs (Set z) i || counted_is cs (SetIn z d) i)

takes_deck_is : (d : ℕ) (t : Target) → takes_deck d t ≡ is_same (Deck d) t
takes_deck_is d (Set a) = refl
takes_deck_is d (SetIn a e) = refl
takes_deck_is d (Deck e) = grind (arith, nat_tests)

deck_is : (cs : List CardView) (d : ℕ) → not (list_any (takes_deck d) (targets_of cs)) ≡ (count_on cs (Deck d) == 0)
deck_is cs d =
    ap not (ap (λ (test : Target → Bool). list_any test (targets_of cs)) (λ i t. takes_deck_is d t i) ∙ counted_is cs (Deck d))
    ∙ not_not (count_on cs (Deck d) == 0)

-- goodness and status by the targets of live cards are those by their counts
pub good_is : (cs : List CardView) (d : ℕ) (c : CardView) → is_good (targets_of cs) d c ≡ stays_on (is_taken_by (count_on cs) d) c.history
good_is cs d c = λ i. stays_on (λ z. taken_is cs d z i) c.history

pub status_is : (cs : List CardView) (d : ℕ) (c : CardView) → is_active (targets_of cs) d c ≡ is_active_by (count_on cs) d c
status_is cs d c = λ i. good_is cs d c i && deck_is cs d i

-- ---- a card that no flipped target reaches stays as it was

pub same_stays : (f g : ℕ → Bool) (es : List Entry) → AllByRecursion (λ e. f e.ident ≡ g e.ident) es → stays_on f es ≡ stays_on g es
same_stays f g es same = ap ends_on (kept es same)
  where
    kept : (es : List Entry) → AllByRecursion (λ e. f e.ident ≡ g e.ident) es →
        filter (λ (e : Entry). not (f e.ident)) es ≡ filter (λ (e : Entry). not (g e.ident)) es
    kept [] same = refl
    kept (e ∷ es) same = rw (same.0, kept es same.1) refl

no_flip : (before now : Target → ℕ) (t : Target) → is_flipped before now t ≡ false → (before t == 0) ≡ (now t == 0)
no_flip before now t e = same_truths (before t == 0) (now t == 0) e

same_taken : (before now : Target → ℕ) (d : ℕ) (e : Entry) → is_retaken before now d e ≡ false → is_taken_by before d e.ident ≡ is_taken_by now d e.ident
same_taken before now d e none =
    let p = or_parts (is_flipped before now (Set e.ident)) (is_flipped before now (SetIn e.ident d)) none in
    λ i. not (no_flip before now (Set e.ident) p.0 i) || not (no_flip before now (SetIn e.ident d) p.1 i)

pub same_active : (before now : Target → ℕ) (d : ℕ) (c : CardView) → is_reached before now d c ≡ false → is_active_by before d c ≡ is_active_by now d c
same_active before now d c none =
    let p = or_parts (list_any (is_retaken before now d) c.history) (is_flipped before now (Deck d)) none in
    let stays = same_stays (is_taken_by before d) (is_taken_by now d) c.history (entries c.history (none_any (is_retaken before now d) c.history p.0)) in
    λ i. stays i && no_flip before now (Deck d) p.1 i
  where
    entries : (es : List Entry) → AllByRecursion (λ e. is_retaken before now d e ≡ false) es →
        AllByRecursion (λ e. is_taken_by before d e.ident ≡ is_taken_by now d e.ident) es
    entries [] all = tt
    entries (e ∷ es) all = (same_taken before now d e all.0, entries es all.1)
