-- What is kept under each key, and each site's mark, after one more run and after a settlement.
use Rattle.upd_desk.proofs.Common.{◌≡◌, ℕ, nat_lt, nat_le, max, Bool, true, false, ◌&&◌, ◌||◌, if◌then◌else◌, List, [], ◌∷◌, ◌++◌, Option, Some, None, refl}
use Rattle.upd_desk.proofs.Common.{ap, ◌∙◌, rules, arith, list_any, find, bytes_eq, nat_tests, RunView, Rows, is_run, run_at, mark_at, settled_to}
use Rattle.upd_desk.proofs.Common.{is_same_bytes, max_left, max_right, same_bytes, same_key, Heard, Journal, Settled, mark, has_key, distinct, run_of}
use Rattle.upd_desk.proofs.Common.{answered, kept, ReplyView}
use Rattle.upd_row_store.proofs.TableLemmas.{mark_at_settled, run_at_committed, run_at_settled, unequal}
use Rattle.upd_desk.proofs.JournalLemmas.{answered_any}

-- ---- lists

-- nothing is found where none passes
pub none_found : {A : Type 0} (test : A → Bool) (xs : List A) → list_any test xs ≡ false → find test xs ≡ None
none_found test [] none = refl
none_found {A} test (x ∷ xs) none = go (test x) none (none_found test xs)
  where
    go : (b : Bool) → (b || list_any test xs) ≡ false → (list_any test xs ≡ false → find test xs ≡ None)
        → (if b then Some x else find test xs) ≡ None
    go true all rest = grind rules
    go false all rest = rest all

-- ---- one more run

pub not_below : (m n : ℕ) → nat_lt m n ≡ true → nat_le n m ≡ false
not_below m n above = grind (arith, nat_tests)

-- a new run is what is kept under its key, and under the other keys the same is kept as before
pub kept_with_run : (j : Journal) (h : Heard) (reply : ReplyView) (rows : Rows)
    → ((site : List ℕ) (n : ℕ) → run_at site n rows ≡ kept j site n)
    → nat_lt (mark j h.arrival.site) h.arrival.number ≡ true
    → list_any (has_key h.arrival.site h.arrival.number) (distinct j) ≡ false
    → (site : List ℕ) (n : ℕ) → find (is_run site n) (rows.runs ++ run_of h reply ∷ [])
    ≡ (if nat_le n (mark j site)
    then None
    else (if is_run site n (run_of h reply) then Some (run_of h reply) else find (is_run site n) (answered (distinct j))))
kept_with_run j h reply rows old above fresh site n = run_at_committed [] (run_of h reply) rows none site n ∙ go (is_run site n (run_of h reply)) refl
  where
    none : run_at h.arrival.site h.arrival.number rows ≡ None
    none = old h.arrival.site h.arrival.number ∙ rw (not_below (mark j h.arrival.site) h.arrival.number above)
        (none_found (is_run h.arrival.site h.arrival.number) (answered (distinct j))
        (answered_any h.arrival.site h.arrival.number (distinct j) ∙ fresh))

    go : (hit : Bool) → is_run site n (run_of h reply) ≡ hit → (if hit then Some (run_of h reply) else run_at site n rows)
        ≡ (if nat_le n (mark j site) then None else (if hit then Some (run_of h reply) else find (is_run site n) (answered (distinct j))))
    go false miss = old site n
    go true hit =
        let key = same_key h.arrival.site site h.arrival.number n hit in
        let higher : nat_lt (mark j site) n ≡ true = rw (← key.0, ← key.1) above in
        rw (not_below (mark j site) n higher) refl

-- ---- a settlement

-- the marks are those of the journal with the settlement
pub mark_settled : (j : Journal) (s : List ℕ) (n : ℕ) (rows : Rows) → ((site : List ℕ) → mark_at site rows ≡ mark j site)
    → (site : List ℕ) → mark_at site (settled_to s n rows) ≡ mark (Settled s n ∷ j) site
mark_settled j s n rows old site = mark_at_settled s n rows site ∙ ap (λ m. if bytes_eq s site then max n m else m) (old site)

-- what is kept is what the journal with the settlement keeps
pub kept_settled : (j : Journal) (s : List ℕ) (n : ℕ) (rows : Rows) → ((site : List ℕ) → mark_at site rows ≡ mark j site)
    → ((site : List ℕ) (m : ℕ) → run_at site m rows ≡ kept j site m)
    → (site : List ℕ) (m : ℕ) → run_at site m (settled_to s n rows) ≡ kept (Settled s n ∷ j) site m
kept_settled j s n rows marks old site m = go (nat_le n (mark_at s rows)) (bytes_eq s site) refl refl
  where
    left : Bool → Option RunView
    left same = if nat_le m (if same then max n (mark j site) else mark j site) then None else find (is_run site m) (answered (distinct j))

    above_all : nat_le n (mark j site) ≡ false → nat_le m n ≡ false → nat_le m (mark j site) ≡ false
    above_all a b = grind (arith, nat_tests)

    by_number : nat_le n (mark j site) ≡ false → (low : Bool) → nat_le m n ≡ low → (if low then None else run_at site m rows) ≡ left true
    by_number above true low = rw (max_left n (mark j site) above, low) refl
    by_number above false high = rw (max_left n (mark j site) above, high) (old site m ∙ rw (above_all above high) refl)

    go : (below same : Bool) → nat_le n (mark_at s rows) ≡ below → bytes_eq s site ≡ same → run_at site m (settled_to s n rows) ≡ left same
    go true true b is =
        let below : nat_le n (mark j site) ≡ true = rw (← marks site, ← same_bytes s site is) b in
        rw (b, max_right n (mark j site) below) (old site m)
    go true false b is = rw b (old site m)
    go false true b is =
        let above : nat_le n (mark j site) ≡ false = rw (← marks site, ← same_bytes s site is) b in
        let taken : (bytes_eq site s && nat_le m n) ≡ nat_le m n = rw (same_bytes s site is, is_same_bytes site) refl in
        run_at_settled s n rows b site m ∙ ap (λ t. if t then None else run_at site m rows) taken ∙ by_number above (nat_le m n) refl
    go false false b is = run_at_settled s n rows b site m ∙ rw (unequal s site is) (old site m)
