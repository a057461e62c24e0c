-- Changes that tables can carry out, one after the other.
use Rattle.upd_diff.proofs.Common.{◌≡◌, ℕ, ◌+◌, ◌<◌, ◌≤◌, ◌^◌, Bool, true, false, cond, List, [], ◌∷◌, ◌++◌, refl, ap, sym, ◌∙◌, arith, not, ◌==◌, ◌&&◌, ◌||◌}
use Rattle.upd_diff.proofs.Common.{nat_lt, nat_le, ℤ, pos, negsuc, IsTrue, AllByRecursion, nat_tests, map-append, LibraryView, CardRow, Rows, IsSame, Shows}
use Rattle.upd_diff.proofs.Common.{row_changes_state, ChangeView, IdentNew, IdentPurged, CardNew, CardGone, CardsMoved, EntryNew, EntriesGone, TargetNew}
use Rattle.upd_diff.proofs.Common.{TargetsGone, StatusNow, CountNow, done, done_all, moved_row, CanMove, AllFit, same_of, same_trans, count_cons, on_cards}
use Rattle.upd_diff.proofs.Common.{all_acts, acts_append, cards_after}
use Rattle.std.specs.Prelude.{count_by}
use Rattle.upd_records.specs.Fits.{Fits}
use Rattle.upd_diff.proofs.AllLemmas.{all_joined}
use Rattle.upd_records.proofs.EffectLemmas.{act, act_same, cards_one}

-- ---- changes one after the other

pub done_append : (cs ds : List ChangeView) (rows : Rows) → done_all (cs ++ ds) rows ≡ done_all ds (done_all cs rows)
done_append [] ds rows = refl
done_append (c ∷ cs) ds rows = done_append cs ds (done c rows)

pub fit_append : (cs ds : List ChangeView) (rows : Rows) → AllFit cs rows → AllFit ds (done_all cs rows) → AllFit (cs ++ ds) rows
fit_append [] ds rows a b = b
fit_append (c ∷ cs) ds rows a b = (a.0, fit_append cs ds (done c rows) a.1 b)

-- a change that fits any tables: all but moves do, by computation
abbrev pub FitsAny : ChangeView → Type 0
FitsAny c = (rows : Rows) → Fits c rows

pub any_fit : (cs : List ChangeView) (rows : Rows) → AllByRecursion FitsAny cs → AllFit cs rows
any_fit [] rows any = tt
any_fit (c ∷ cs) rows any = (any.0 rows, any_fit cs (done c rows) any.1)

-- ---- changes of statuses and counts

-- they leave what the tables show of a library
pub shows_stay : (cs : List ChangeView) (rows : Rows) (l : LibraryView) → AllByRecursion (λ c. row_changes_state c ≡ true) cs → Shows rows l
    → Shows (done_all cs rows) l
shows_stay [] rows l all shows = shows
shows_stay (c ∷ cs) rows l all shows = shows_stay cs (done c rows) l all.1 (one c all.0)
  where
    one : (c : ChangeView) → row_changes_state c ≡ true → Shows (done c rows) l
    one (StatusNow card active) is = record { idents = shows.idents; cards = shows.cards; entries = shows.entries; targets = shows.targets }
    one (CountNow target n) is = record { idents = shows.idents; cards = shows.cards; entries = shows.entries; targets = shows.targets }
    one (IdentNew i) is = absurd (cc)
    one (IdentPurged age) is = absurd (cc)
    one (CardNew card deck place body) is = absurd (cc)
    one (CardGone card) is = absurd (cc)
    one (CardsMoved deck from by) is = absurd (cc)
    one (EntryNew card ord entry) is = absurd (cc)
    one (EntriesGone card) is = absurd (cc)
    one (TargetNew card ord target) is = absurd (cc)
    one (TargetsGone card targets) is = absurd (cc)

-- and they fit any tables
pub states_fit : (cs : List ChangeView) (rows : Rows) → AllByRecursion (λ c. row_changes_state c ≡ true) cs → AllFit cs rows
states_fit [] rows all = tt
states_fit (c ∷ cs) rows all = (one c all.0, states_fit cs (done c rows) all.1)
  where
    one : (c : ChangeView) → row_changes_state c ≡ true → Fits c rows
    one (StatusNow card active) is = tt
    one (CountNow target n) is = tt
    one (IdentNew i) is = tt
    one (IdentPurged age) is = tt
    one (CardNew card deck place body) is = tt
    one (CardGone card) is = tt
    one (CardsMoved deck from by) is = absurd (cc)
    one (EntryNew card ord entry) is = tt
    one (EntriesGone card) is = tt
    one (TargetNew card ord target) is = tt
    one (TargetsGone card targets) is = tt

-- ---- whether changes fit depends only on the rows of cards, in any order

-- whether a row can be moved
abbrev can_move : ℕ → ℕ → ℤ → CardRow → Bool
can_move d from (pos n) r = not ((r.deck == d) && nat_le from r.pos) || nat_lt (r.pos + n) (2 ^ 32)
can_move d from (negsuc n) r = not ((r.deck == d) && nat_le from r.pos) || (nat_le (n + 1) r.pos && nat_lt r.pos (2 ^ 32))

to_test : (d from : ℕ) (by : ℤ) (r : CardRow) → (IsTrue ((r.deck == d) && nat_le from r.pos) → CanMove by r.pos) → can_move d from by r ≡ true
to_test d from (pos n) r can = go ((r.deck == d) && nat_le from r.pos) refl
  where
    go : (b : Bool) → ((r.deck == d) && nat_le from r.pos) ≡ b → (not b || nat_lt (r.pos + n) (2 ^ 32)) ≡ true
    go true is = let less = can is in grind (arith, nat_tests)
    go false is = refl
to_test d from (negsuc n) r can = go ((r.deck == d) && nat_le from r.pos) refl
  where
    both : (a b : Bool) → a ≡ true → b ≡ true → (a && b) ≡ true
    both true b p q = q
    both false b p q = p

    go : (b : Bool) → ((r.deck == d) && nat_le from r.pos) ≡ b → (not b || (nat_le (n + 1) r.pos && nat_lt r.pos (2 ^ 32))) ≡ true
    go true is =
        let h = can is in
        let more = h.0 in
        let less = h.1 in
        both (nat_le (n + 1) r.pos) (nat_lt r.pos (2 ^ 32)) (grind (arith, nat_tests)) (grind (arith, nat_tests))
    go false is = refl

of_test : (d from : ℕ) (by : ℤ) (r : CardRow) → can_move d from by r ≡ true → IsTrue ((r.deck == d) && nat_le from r.pos) → CanMove by r.pos
of_test d from (pos n) r can moved = let less : nat_lt (r.pos + n) (2 ^ 32) ≡ true = rw moved at can in grind (arith, nat_tests)
of_test d from (negsuc n) r can moved = go (nat_le (n + 1) r.pos) refl (rw moved at can)
  where
    go : (b : Bool) → nat_le (n + 1) r.pos ≡ b → (b && nat_lt r.pos (2 ^ 32)) ≡ true → (n + 1 ≤ r.pos) × (r.pos < 2 ^ 32)
    go true more less = (grind (arith, nat_tests), grind (arith, nat_tests))
    go false more less = absurd (cc)

-- what holds of each row holds of the same rows in any order
all_pass : {A : Type 0} (test : A → Bool) (xs : List A) → AllByRecursion (λ x. test x ≡ true) xs → count_by (λ x. not (test x)) xs ≡ 0
all_pass test [] all = refl
all_pass test (x ∷ xs) all =
    let later = all_pass test xs all.1 in
    count_cons (λ y. not (test y)) x xs ∙ ap (λ b. cond (not b) 1 0 + count_by (λ y. not (test y)) xs) all.0 ∙ omega arith

none_fail : {A : Type 0} (test : A → Bool) (xs : List A) → count_by (λ x. not (test x)) xs ≡ 0 → AllByRecursion (λ x. test x ≡ true) xs
none_fail test [] none = tt
none_fail test (x ∷ xs) none = go (test x) (sym (count_cons (λ y. not (test y)) x xs) ∙ none) (none_fail test xs)
  where
    go : (b : Bool) → cond (not b) 1 0 + count_by (λ y. not (test y)) xs ≡ 0
        → (count_by (λ y. not (test y)) xs ≡ 0 → AllByRecursion (λ y. test y ≡ true) xs) → (b ≡ true) × AllByRecursion (λ y. test y ≡ true) xs
    go true e later = (refl, later (omega arith))
    go false e later = absurd (omega arith)

all_mapped : {A : Type 0} (P Q : A → Type 0) → ((x : A) → P x → Q x) → (xs : List A) → AllByRecursion P xs → AllByRecursion Q xs
all_mapped P Q so [] all = tt
all_mapped P Q so (x ∷ xs) all = (so x all.0, all_mapped P Q so xs all.1)

fits_same : (c : ChangeView) (a b : Rows) → IsSame a.cards b.cards → Fits c b → Fits c a
fits_same (IdentNew i) a b same fit = tt
fits_same (IdentPurged age) a b same fit = tt
fits_same (CardNew card deck place body) a b same fit = tt
fits_same (CardGone card) a b same fit = tt
fits_same (CardsMoved d from by) a b same fit =
    all_mapped _ _ (of_test d from by) a.cards (none_fail (can_move d from by) a.cards
    (same.passes (λ r. not (can_move d from by r)) ∙ all_pass (can_move d from by) b.cards (all_mapped _ _ (to_test d from by) b.cards fit)))
fits_same (EntryNew card ord entry) a b same fit = tt
fits_same (EntriesGone card) a b same fit = tt
fits_same (TargetNew card ord target) a b same fit = tt
fits_same (TargetsGone card targets) a b same fit = tt
fits_same (StatusNow card active) a b same fit = tt
fits_same (CountNow target n) a b same fit = tt

pub fit_same : (cs : List ChangeView) (a b : Rows) → IsSame a.cards b.cards → AllFit cs b → AllFit cs a
fit_same [] a b same fit = tt
fit_same (c ∷ cs) a b same fit = (fits_same c a b same fit.0, fit_same cs (done c a) (done c b) next fit.1)
  where
    next : IsSame (done c a).cards (done c b).cards
    next = same_trans (same_of _ _ (cards_one c a)) (same_trans (act_same (on_cards c) same) (same_of _ _ (sym (cards_one c b))))

-- tables with only rows of cards
abbrev pub of_cards : List CardRow → Rows
of_cards cards = record { idents = []; cards = cards; entries = []; targets = []; runs = []; states = []; counts = []; settled = [] }

-- Moves that fit rows of cards and make others of them.
pub record Carry (cs : List ChangeView) (before after : List CardRow) : Type 0 where
  pub fit : AllFit cs (of_cards before)
  pub are : all_acts on_cards cs before ≡ after

pub carry_none : (xs : List CardRow) → Carry [] xs xs
carry_none xs = record { fit = tt; are = refl }

pub carry_append : (cs ds : List ChangeView) (xs ys zs : List CardRow) → Carry cs xs ys → Carry ds ys zs → Carry (cs ++ ds) xs zs
carry_append cs ds xs ys zs a b = record {
  fit = fit_append cs ds (of_cards xs) a.fit (fit_same ds (done_all cs (of_cards xs)) (of_cards ys) (same_of _ _ (cards_after cs (of_cards xs) ∙ a.are)) b.fit);
  are = acts_append on_cards cs ds xs ∙ ap (all_acts on_cards ds) a.are ∙ b.are;
}

-- a change that maps each row of cards by itself, as moves do
abbrev pub IsMove : ChangeView → Type 0
IsMove c = (xs ys us vs : List CardRow) → Carry (c ∷ []) xs us → Carry (c ∷ []) ys vs → Carry (c ∷ []) (xs ++ ys) (us ++ vs)

pub are_moves : (d from : ℕ) (by : ℤ) → IsMove (CardsMoved d from by)
are_moves d from by xs ys us vs a b = record {
  fit = (all_joined _ xs ys a.fit.0 b.fit.0, tt);
  are = map-append (moved_row d from by) xs ys ∙ (λ i. a.are i ++ b.are i);
}

carry_first : (c : ChangeView) (cs : List ChangeView) (xs zs : List CardRow) → Carry (c ∷ cs) xs zs → Carry (c ∷ []) xs (act (on_cards c) xs)
carry_first c cs xs zs a = record { fit = (a.fit.0, tt); are = refl }

carry_rest : (c : ChangeView) (cs : List ChangeView) (xs zs : List CardRow) → Carry (c ∷ cs) xs zs → Carry cs (act (on_cards c) xs) zs
carry_rest c cs xs zs a = record {
  fit = fit_same cs (of_cards (act (on_cards c) xs)) (done c (of_cards xs)) (same_of _ _ (sym (cards_one c (of_cards xs)))) a.fit.1;
  are = a.are;
}

pub carry_joined : (cs : List ChangeView) (xs ys us vs : List CardRow) → AllByRecursion IsMove cs → Carry cs xs us → Carry cs ys vs
    → Carry cs (xs ++ ys) (us ++ vs)
carry_joined [] xs ys us vs are a b = record { fit = tt; are = λ i. a.are i ++ b.are i }
carry_joined (c ∷ cs) xs ys us vs are a b =
    carry_append (c ∷ []) cs (xs ++ ys) (act (on_cards c) xs ++ act (on_cards c) ys) (us ++ vs)
    (are.0 xs ys (act (on_cards c) xs) (act (on_cards c) ys) (carry_first c cs xs us a) (carry_first c cs ys vs b))
    (carry_joined cs (act (on_cards c) xs) (act (on_cards c) ys) us vs are.1 (carry_rest c cs xs us a) (carry_rest c cs ys vs b))
