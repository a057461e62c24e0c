-- The live cards are the one solution of their equation.
use Rattle.upd_core.proofs.Common.{◌≡◌, ℕ, ◌≤◌, Bool, true, false, cond, not, ◌||◌, List, [], ◌∷◌, ◌++◌, refl, sym, ap, ◌∙◌, subst, arith, ne_eqb, list_any}
use Rattle.upd_core.proofs.Common.{filter, AllByRecursion, Entry, Target, Set, SetIn, Deck, CardView, takes, is_taken, ends_on, is_good, targets_of}
use Rattle.upd_core.proofs.Common.{live_cards, TakesOlder, IsAged}
use Rattle.std.proofs.lemmas.List.Folds.{list_any-append}
use Rattle.upd_core.proofs.LiveLemmas.{live_before, good_before, bad_before}
use Rattle.upd_core.specs.Status.{HasEntriesFrom, AreLive}

-- older targets take no younger ident
takes_none : (age z d : ℕ) → age ≤ z → (more : List Target) → AllByRecursion (TakesOlder age) more → list_any (takes d z) more ≡ false
takes_none age z d young [] older = refl
takes_none age z d young (Set a ∷ more) older = rw (ne_eqb a z (λ e. omega (arith, older.0.1))) (takes_none age z d young more older.1)
takes_none age z d young (SetIn a e ∷ more) older = rw (ne_eqb a z (λ e. omega (arith, older.0.0.1))) (takes_none age z d young more older.1)
takes_none age z d young (Deck e ∷ more) older = takes_none age z d young more older.1

-- an ident that none of the first targets takes is taken by the others or not at all
taken_behind : (z d : ℕ) (first others : List Target) → list_any (takes d z) first ≡ false → is_taken (first ++ others) d z ≡ is_taken others d z
taken_behind z d first others none = list_any-append (takes d z) first others ∙ ap (λ b. b || is_taken others d z) none

filter_same : {A : Type 0} (p q : A → Bool) (xs : List A) → AllByRecursion (λ x. p x ≡ q x) xs → filter p xs ≡ filter q xs
filter_same p q [] same = refl
filter_same p q (x ∷ xs) same = rw (same.0, filter_same p q xs same.1) refl

-- more targets that are older than the entries of a card leave it as good as it was
good_same : (live more : List Target) (age : ℕ) (c : CardView) → AllByRecursion (TakesOlder age) more → HasEntriesFrom age c →
    is_good (more ++ live) 0 c ≡ is_good live 0 c
good_same live more age c older young = ap ends_on (filter_same _ _ c.history (entries c.history young))
  where
    entries : (es : List Entry) → AllByRecursion (λ e. age ≤ e.ident) es →
        AllByRecursion (λ e. not (is_taken (more ++ live) 0 e.ident) ≡ not (is_taken live 0 e.ident)) es
    entries [] young = tt
    entries (e ∷ es) young = (ap not (taken_behind e.ident 0 more live (takes_none age e.ident 0 young.0 more older)), entries es young.1)

-- the same of cards with entries from a serial on
pub all_good_same : (live more : List Target) (age : ℕ) (ys : List CardView) → AllByRecursion (TakesOlder age) more → AllByRecursion (HasEntriesFrom age) ys →
    AllByRecursion (λ c. is_good (more ++ live) 0 c ≡ is_good live 0 c) ys
all_good_same live more age [] older young = tt
all_good_same live more age (c ∷ ys) older young = (good_same live more age c older young.0, all_good_same live more age ys older young.1)

-- the good cards of an aged list, where its first card is live or is not
first_live : (live : List CardView) (y : CardView) (ys : List CardView) → IsAged (y ∷ ys) → is_good (targets_of live) 0 y ≡ true →
    filter (is_good (targets_of (y ∷ live)) 0) (y ∷ ys) ≡ y ∷ filter (is_good (targets_of live) 0) ys
first_live live y ys aged good =
    let all = all_good_same (targets_of live) y.targets y.ident (y ∷ ys) aged.0 aged.1 in
    rw (all.0, good, filter_same _ _ ys all.1) refl

-- a good first card is live, and a bad one is not
live_first : (y : CardView) (ys later : List CardView) → IsAged (y ∷ ys) → AreLive later ys → AreLive (live_before y later) (y ∷ ys)
live_first y ys later aged h = by_first (is_good (targets_of later) 0 y) refl
  where
    good : List CardView
    good = filter (is_good (targets_of later) 0) ys

    by_first : (good : Bool) → is_good (targets_of later) 0 y ≡ good → AreLive (live_before y later) (y ∷ ys)
    by_first true e = subst (λ live. AreLive live (y ∷ ys)) (sym (good_before y later e)) (sym (first_live later y ys aged e ∙ ap (λ l. y ∷ l) (sym h)))
    by_first false e = subst (λ live. AreLive live (y ∷ ys)) (sym (bad_before y later e)) (h ∙ sym (ap (λ b. cond b (y ∷ good) good) e))

pub solves : (yanks : List CardView) → IsAged yanks → AreLive (live_cards yanks) yanks
solves [] aged = refl
solves (y ∷ ys) aged = live_first y ys (live_cards ys) aged (solves ys aged.2)

pub only : (yanks live : List CardView) → IsAged yanks → AreLive live yanks → live ≡ live_cards yanks
only [] live aged h = h
only (y ∷ ys) live aged h = by_first (is_good (targets_of live) 0 y) refl (λ later. only ys later aged.2)
  where
    later : List CardView
    later = filter (is_good (targets_of live) 0) ys

    by_first : (good : Bool) → is_good (targets_of live) 0 y ≡ good → ((later : List CardView) → AreLive later ys → later ≡ live_cards ys) →
        live ≡ live_cards (y ∷ ys)
    by_first true e rest =
        let is : live ≡ y ∷ later = h ∙ ap (λ b. cond b (y ∷ later) later) e in
        let all = all_good_same (targets_of later) y.targets y.ident (y ∷ ys) aged.0 aged.1 in
        let same : later ≡ filter (is_good (targets_of later) 0) ys = ap (λ l. filter (is_good (targets_of l) 0) ys) is ∙ filter_same _ _ ys all.1 in
        let good : is_good (targets_of later) 0 y ≡ true = sym all.0 ∙ ap (λ l. is_good (targets_of l) 0 y) (sym is) ∙ e in
        is ∙ sym (good_before y later good) ∙ ap (live_before y) (rest later same)
    by_first false e rest =
        let is : live ≡ later = h ∙ ap (λ b. cond b (y ∷ later) later) e in
        sym (bad_before y live e) ∙ ap (live_before y) (rest live is)
