-- What tables keep, and what they show, after one more commit and after a settlement.
use Rattle.upd_row_store.proofs.Common.{◌≡◌, ℕ, ◌≤◌, ◌==◌, nat_le, Bool, true, false, not, ◌&&◌, if◌then◌else◌, List, [], ◌∷◌, ◌++◌, Option, Some, None, refl}
use Rattle.upd_row_store.proofs.Common.{ap, sym, ◌∙◌, rules, arith, option_map_or, filter, bytes_eq, nat_tests, bytes_eq-Decides, LibraryView, Rows, Shows}
use Rattle.upd_row_store.proofs.Common.{ShowsStates, ChangeView, IdentNew, IdentPurged, CardNew, CardGone, CardsMoved, EntryNew, EntriesGone, TargetNew}
use Rattle.upd_row_store.proofs.Common.{TargetsGone, StatusNow, CountNow, done, committed}
use Rattle.std.proofs.Common.{max}
use Rattle.std.specs.Option.{option_or}
use Rattle.std.specs.List.{find}
use Rattle.std.proofs.Math.Nat.{max-eq_left, max-eq_right}
use Rattle.std.proofs.lemmas.List.Folds.{find-append}
use Rattle.upd_records.specs.Rows.{RunView, MarkRow}
use Rattle.upd_records.specs.Changes.{done_all}
use Rattle.upd_row_store.specs.Tables.{is_run, run_at, is_mark_of, mark_at, is_settled, settled_to}

-- ---- tests of texts

pub same_bytes : (a b : List ℕ) → bytes_eq a b ≡ true → a ≡ b
same_bytes a b same = (bytes_eq-Decides a b).0 same

pub is_same_bytes : (a : List ℕ) → bytes_eq a a ≡ true
is_same_bytes a = (bytes_eq-Decides a a).1 refl

pub unequal : (a b : List ℕ) → bytes_eq a b ≡ false → bytes_eq b a ≡ false
unequal a b other = go (bytes_eq b a) refl
  where
    go : (t : Bool) → bytes_eq b a ≡ t → t ≡ false
    go false miss = refl
    go true hit = let clash : true ≡ false = sym (is_same_bytes a) ∙ ap (bytes_eq a) (sym (same_bytes b a hit)) ∙ other in grind rules

pub same_key : (site other : List ℕ) (n m : ℕ) → (bytes_eq site other && (n == m)) ≡ true → (site ≡ other) × (n ≡ m)
same_key site other n m same = let p = both (bytes_eq site other) (n == m) same in (same_bytes site other p.0, (let eq = p.1 in grind (arith, nat_tests)))
  where
    both : (a b : Bool) → (a && b) ≡ true → (a ≡ true) × (b ≡ true)
    both true b holds = (refl, holds)
    both false b holds = grind rules

-- ---- lists

-- what is sought is found behind the others where none of these is it
pub found_last : {A : Type 0} (test : A → Bool) (xs : List A) (x : A) → find test xs ≡ None → test x ≡ true → find test (xs ++ x ∷ []) ≡ Some x
found_last test xs x none hit = rw (find-append test xs (x ∷ []), none, hit) refl

-- one that isn't sought makes no difference
pub not_sought : {A : Type 0} (test : A → Bool) (xs : List A) (x : A) → test x ≡ false → find test (xs ++ x ∷ []) ≡ find test xs
not_sought {A} test xs x miss = rw (find-append test xs (x ∷ []), miss) (or_none (find test xs))
  where
    or_none : (o : Option A) → option_or o None ≡ o
    or_none None = refl
    or_none (Some y) = refl

-- a test that is passed by none of those that go finds the same in what is left
pub same_left : {A : Type 0} (test gone : A → Bool) (xs : List A) → ((x : A) → test x ≡ true → gone x ≡ false)
    → find test (filter (λ x. not (gone x)) xs) ≡ find test xs
same_left test gone [] apart = refl
same_left {A} test gone (x ∷ xs) apart = go (test x) (gone x) refl refl (same_left test gone xs apart)
  where
    go : (t g : Bool) → test x ≡ t → gone x ≡ g → find test (filter (λ x. not (gone x)) xs) ≡ find test xs
        → find test (filter (λ x. not (gone x)) (x ∷ xs)) ≡ find test (x ∷ xs)
    go true true is goes rest = let clash : true ≡ false = sym goes ∙ apart x is in grind rules
    go true false is goes rest = rw (goes, is) refl
    go false true is goes rest = rw (goes, is) rest
    go false false is goes rest = rw (goes, is) rest

-- a test that only those pass that go finds nothing
pub none_left : {A : Type 0} (test gone : A → Bool) (xs : List A) → ((x : A) → test x ≡ true → gone x ≡ true)
    → find test (filter (λ x. not (gone x)) xs) ≡ None
none_left test gone [] all = refl
none_left {A} test gone (x ∷ xs) all = go (test x) (gone x) refl refl (none_left test gone xs all)
  where
    go : (t g : Bool) → test x ≡ t → gone x ≡ g → find test (filter (λ x. not (gone x)) xs) ≡ None
        → find test (filter (λ x. not (gone x)) (x ∷ xs)) ≡ None
    go true true is goes rest = rw goes rest
    go true false is goes rest = let clash : false ≡ true = sym goes ∙ all x is in grind rules
    go false true is goes rest = rw goes rest
    go false false is goes rest = rw (goes, is) rest

-- ---- row changes

runs_one : (c : ChangeView) (rows : Rows) → (done c rows).runs ≡ rows.runs
runs_one (IdentNew i) rows = refl
runs_one (IdentPurged age) rows = refl
runs_one (CardNew card deck place body) rows = refl
runs_one (CardGone card) rows = refl
runs_one (CardsMoved deck from by) rows = refl
runs_one (EntryNew card ord entry) rows = refl
runs_one (EntriesGone card) rows = refl
runs_one (TargetNew card ord target) rows = refl
runs_one (TargetsGone card targets) rows = refl
runs_one (StatusNow card active) rows = refl
runs_one (CountNow target n) rows = refl

marks_one : (c : ChangeView) (rows : Rows) → (done c rows).settled ≡ rows.settled
marks_one (IdentNew i) rows = refl
marks_one (IdentPurged age) rows = refl
marks_one (CardNew card deck place body) rows = refl
marks_one (CardGone card) rows = refl
marks_one (CardsMoved deck from by) rows = refl
marks_one (EntryNew card ord entry) rows = refl
marks_one (EntriesGone card) rows = refl
marks_one (TargetNew card ord target) rows = refl
marks_one (TargetsGone card targets) rows = refl
marks_one (StatusNow card active) rows = refl
marks_one (CountNow target n) rows = refl

-- changes leave the kept runs and the marks
pub runs_stay : (cs : List ChangeView) (rows : Rows) → (done_all cs rows).runs ≡ rows.runs
runs_stay [] rows = refl
runs_stay (c ∷ cs) rows = runs_stay cs (done c rows) ∙ runs_one c rows

pub marks_stay : (cs : List ChangeView) (rows : Rows) → (done_all cs rows).settled ≡ rows.settled
marks_stay [] rows = refl
marks_stay (c ∷ cs) rows = marks_stay cs (done c rows) ∙ marks_one c rows

-- ---- one more commit

pub runs_committed : (cs : List ChangeView) (run : RunView) (rows : Rows) → (committed cs run rows).runs ≡ rows.runs ++ run ∷ []
runs_committed cs run rows = ap (λ runs. runs ++ run ∷ []) (runs_stay cs rows)

-- a new run is what is kept under its key, and under the other keys the same is kept as before
pub run_at_committed : (cs : List ChangeView) (run : RunView) (rows : Rows) → run_at run.site run.number rows ≡ None → (site : List ℕ) (n : ℕ)
    → run_at site n (committed cs run rows) ≡ (if is_run site n run then Some run else run_at site n rows)
run_at_committed cs run rows new site n = ap (find (is_run site n)) (runs_committed cs run rows) ∙ go (is_run site n run) refl
  where
    go : (hit : Bool) → is_run site n run ≡ hit → find (is_run site n) (rows.runs ++ run ∷ []) ≡ (if hit then Some run else run_at site n rows)
    go false miss = not_sought (is_run site n) rows.runs run miss
    go true hit =
        let key = same_key run.site site run.number n hit in
        let none : run_at site n rows ≡ None = rw (← key.0, ← key.1) new in
        found_last (is_run site n) rows.runs run none hit

-- the library, its statuses and its counts are those that the changes leave
pub shows_committed : (cs : List ChangeView) (run : RunView) (rows : Rows) (l : LibraryView) → Shows (done_all cs rows) l → Shows (committed cs run rows) l
shows_committed cs run rows l shown = record { idents = shown.idents; cards = shown.cards; entries = shown.entries; targets = shown.targets }

pub states_committed : (cs : List ChangeView) (run : RunView) (rows : Rows) (l : LibraryView)
    → ShowsStates (done_all cs rows) l → ShowsStates (committed cs run rows) l
states_committed cs run rows l shown = record { states = shown.states; counts = shown.counts }

-- ---- a settlement

pub max_right : (n m : ℕ) → nat_le n m ≡ true → max n m ≡ m
max_right n m below = let le : n ≤ m = grind (arith, nat_tests) in max-eq_right le

pub max_left : (n m : ℕ) → nat_le n m ≡ false → max n m ≡ n
max_left n m above = let le : m ≤ n = grind (arith, nat_tests) in max-eq_left le

-- the mark of another site is not this site's
other_mark : (s site : List ℕ) (x : MarkRow) → bytes_eq s site ≡ false → is_mark_of site x ≡ true → is_mark_of s x ≡ false
other_mark s site x other is = go (is_mark_of s x) refl
  where
    go : (b : Bool) → is_mark_of s x ≡ b → b ≡ false
    go false miss = refl
    go true hit =
        let same : s ≡ site = sym (same_bytes x.site s hit) ∙ same_bytes x.site site is in
        let clash : true ≡ false = sym (is_same_bytes s) ∙ ap (bytes_eq s) same ∙ other in
        grind rules

-- the site's mark is the greater of the number and the mark before, the other sites' marks stay
pub mark_at_settled : (s : List ℕ) (n : ℕ) (rows : Rows) (site : List ℕ)
    → mark_at site (settled_to s n rows) ≡ (if bytes_eq s site then max n (mark_at site rows) else mark_at site rows)
mark_at_settled s n rows site = go (nat_le n (mark_at s rows)) (bytes_eq s site) refl refl
  where
    go : (below same : Bool) → nat_le n (mark_at s rows) ≡ below → bytes_eq s site ≡ same
        → mark_at site (settled_to s n rows) ≡ (if same then max n (mark_at site rows) else mark_at site rows)
    go true true b is =
        let below : nat_le n (mark_at site rows) ≡ true = rw (← same_bytes s site is) b in
        rw b (sym (max_right n (mark_at site rows) below))
    go true false b is = rw b refl
    go false true b is =
        let above : nat_le n (mark_at site rows) ≡ false = rw (← same_bytes s site is) b in
        let none = none_left (is_mark_of site) (is_mark_of s) rows.settled (λ x h. rw (same_bytes s site is) h) in
        rw b (ap (λ m. option_map_or (λ x. x.mark) m 0) (found_last (is_mark_of site) (filter (λ x. not (is_mark_of s x)) rows.settled)
        (record { site = s; mark = n }) none is) ∙ sym (max_left n (mark_at site rows) above))
    go false false b is =
        let rest = same_left (is_mark_of site) (is_mark_of s) rows.settled (λ x h. other_mark s site x is h) in
        rw b (ap (λ m. option_map_or (λ x. x.mark) m 0) (not_sought (is_mark_of site) (filter (λ x. not (is_mark_of s x)) rows.settled)
        (record { site = s; mark = n }) is ∙ rest))

-- a number above the mark is the mark afterwards
pub settled_mark : (s : List ℕ) (n : ℕ) (rows : Rows) → nat_le n (mark_at s rows) ≡ false → mark_at s (settled_to s n rows) ≡ n
settled_mark s n rows above = mark_at_settled s n rows s ∙ rw (is_same_bytes s) (max_left n (mark_at s rows) above)

-- which of the runs of a key a settlement takes
taken_by : (s site : List ℕ) (n m : ℕ) (x : RunView) → is_run site m x ≡ true → is_settled s n x ≡ (bytes_eq site s && nat_le m n)
taken_by s site n m x hit = let key = same_key x.site site x.number m hit in rw (key.0, key.1) refl

-- a settlement above the mark takes the site's runs up to its number, and no others
pub run_at_settled : (s : List ℕ) (n : ℕ) (rows : Rows) → nat_le n (mark_at s rows) ≡ false → (site : List ℕ) (m : ℕ)
    → run_at site m (settled_to s n rows) ≡ (if bytes_eq site s && nat_le m n then None else run_at site m rows)
run_at_settled s n rows above site m = rw above (go (bytes_eq site s && nat_le m n) refl)
  where
    go : (taken : Bool) → (bytes_eq site s && nat_le m n) ≡ taken → find (is_run site m) (filter (λ x. not (is_settled s n x)) rows.runs)
        ≡ (if taken then None else run_at site m rows)
    go true is = none_left (is_run site m) (is_settled s n) rows.runs (λ x h. taken_by s site n m x h ∙ is)
    go false is = same_left (is_run site m) (is_settled s n) rows.runs (λ x h. taken_by s site n m x h ∙ is)

-- the library, its statuses and its counts stay
pub shows_settled : (s : List ℕ) (n : ℕ) (rows : Rows) (l : LibraryView) → Shows rows l → Shows (settled_to s n rows) l
shows_settled s n rows l shown = go (nat_le n (mark_at s rows)) refl
  where
    go : (below : Bool) → nat_le n (mark_at s rows) ≡ below → Shows (settled_to s n rows) l
    go true b = rw b shown
    go false b = rw b (record { idents = shown.idents; cards = shown.cards; entries = shown.entries; targets = shown.targets })

pub states_settled : (s : List ℕ) (n : ℕ) (rows : Rows) (l : LibraryView) → ShowsStates rows l → ShowsStates (settled_to s n rows) l
states_settled s n rows l shown = go (nat_le n (mark_at s rows)) refl
  where
    go : (below : Bool) → nat_le n (mark_at s rows) ≡ below → ShowsStates (settled_to s n rows) l
    go true b = rw b shown
    go false b = rw b (record { states = shown.states; counts = shown.counts })
