-- What is kept stays kept, whatever comes between, as long as it isn't settled.
use Rattle.upd_desk.proofs.Common.{◌≡◌, ℕ, ◌≤◌, ◌==◌, nat_lt, nat_le, max, Bool, true, false, not, ◌&&◌, ◌||◌, if◌then◌else◌, List, [], ◌∷◌, ◌++◌, Option}
use Rattle.upd_desk.proofs.Common.{Some, None, Result, Ok, Err, refl, sym, ◌∙◌, rules, arith, list_any, find, bytes_eq, nat_tests, Fault, LibraryView}
use Rattle.upd_desk.proofs.Common.{RunView, Mode, is_run, is_same_bytes, same_key, ArrivalView, check_arrival, mode_number, Came, Carried, Settled, Heard}
use Rattle.upd_desk.proofs.Common.{Journal, mark, has_key, with_arrival, distinct, outcome_of, made_by, library_after, run_of, answered, kept, reply_to}
use Rattle.upd_desk.proofs.Common.{answer, ReplyView, outcome}
use Rattle.std.proofs.Math.Nat.{le-max_right}
use Rattle.upd_desk.proofs.JournalLemmas.{unheard_unadmitted, unheard_settled, unheard_known, heard_new, answered_any}
use Rattle.upd_desk.proofs.KeptLemmas.{none_found, not_below}

pub missed : {A : Type 0} (test : A → Bool) (xs : List A) → find test xs ≡ None → list_any test xs ≡ false
missed test [] is = refl
missed {A} test (x ∷ xs) is = go (test x) is (missed test xs)
  where
    go : (b : Bool) → (if b then Some x else find test xs) ≡ None → (find test xs ≡ None → list_any test xs ≡ false) → (b || list_any test xs) ≡ false
    go true hit rest = grind rules
    go false miss rest = rest miss

-- ---- a refusal leaves the journal's runs as they were

-- a stored run is one of the distinct runs
pub known_where_kept : (j : Journal) (site : List ℕ) (n : ℕ) (run : RunView) → kept j site n ≡ Some run → list_any (has_key site n) (distinct j) ≡ true
known_where_kept j site n run is = go (list_any (has_key site n) (distinct j)) refl
  where
    none : list_any (has_key site n) (distinct j) ≡ false → (settled : Bool)
        → (if settled then None else find (is_run site n) (answered (distinct j))) ≡ None
    none miss true = refl
    none miss false = none_found (is_run site n) (answered (distinct j)) (answered_any site n (distinct j) ∙ miss)

    go : (known : Bool) → list_any (has_key site n) (distinct j) ≡ known → known ≡ true
    go true hit = refl
    go false miss = let clash : None ≡ Some run = sym (none miss (nat_le n (mark j site))) ∙ is in grind rules

pub refused_unheard : (j : Journal) (a : ArrivalView) (fault : Fault) → answer j a ≡ Err fault → distinct (Came a ∷ j) ≡ distinct j
refused_unheard j a fault refused = by_admission (check_arrival a) refl refused
  where
    by_kept : (mode : Mode) → check_arrival a ≡ Ok mode → (k : Option RunView) → kept j a.site a.number ≡ k → reply_to mode a (library_after j) k ≡ Err fault
        → distinct (Came a ∷ j) ≡ distinct j
    by_kept mode passed None is answers = grind rules
    by_kept mode passed (Some run) is answers = unheard_known j a mode passed (known_where_kept j a.site a.number run is)

    below_mark : nat_le a.number (mark j a.site) ≡ true → nat_lt (mark j a.site) a.number ≡ false
    below_mark settled = grind (arith, nat_tests)

    by_mark : (mode : Mode) → check_arrival a ≡ Ok mode → (settled : Bool) → nat_le a.number (mark j a.site) ≡ settled → answer j a ≡ Err fault
        → distinct (Came a ∷ j) ≡ distinct j
    by_mark mode passed true settled answers = unheard_settled j a mode passed (below_mark settled)
    by_mark mode passed false above answers =
        let answered_by : answer j a ≡ reply_to mode a (library_after j) (kept j a.site a.number) = rw (passed, above) refl in
        by_kept mode passed (kept j a.site a.number) refl (sym answered_by ∙ answers)

    by_admission : (d : Result Mode Fault) → check_arrival a ≡ d → answer j a ≡ Err fault → distinct (Came a ∷ j) ≡ distinct j
    by_admission (Err f) is answers = unheard_unadmitted j a f is
    by_admission (Ok mode) is answers = by_mark mode is (nat_le a.number (mark j a.site)) refl answers

-- ---- marks never fall

pub mark_rises : (between before : Journal) (site : List ℕ) → mark before site ≤ mark (between ++ before) site
mark_rises [] before site = grind arith
mark_rises (Came a ∷ es) before site = mark_rises es before site
mark_rises (Carried a reply ∷ es) before site = mark_rises es before site
mark_rises (Settled s n ∷ es) before site = go (bytes_eq s site) (mark_rises es before site)
  where
    go : (same : Bool) → mark before site ≤ mark (es ++ before) site
        → mark before site ≤ (if same then max n (mark (es ++ before) site) else mark (es ++ before) site)
    go true rest = let more = le-max_right n (mark (es ++ before) site) in grind arith
    go false rest = rest

-- ---- what was answered under a key stays

-- a run that is found under a key is found there with one more that is heard
found_with : (k : Journal) (a : ArrivalView) (carried : Option (List ℕ)) (d : Result Mode Fault) (site : List ℕ) (n : ℕ) (run : RunView)
    → find (is_run site n) (answered (distinct k)) ≡ Some run → find (is_run site n) (answered (with_arrival k (distinct k) a carried d)) ≡ Some run
found_with k a carried (Err fault) site n run is = is
found_with k a carried (Ok mode) site n run is = by (nat_lt (mark k a.site) a.number) (list_any (has_key a.site a.number) (distinct k)) refl
  where
    h : Heard
    h = record { arrival = a; mode = mode; carried = carried }

    other : list_any (has_key a.site a.number) (distinct k) ≡ false → (hit : Bool) → (bytes_eq a.site site && (a.number == n)) ≡ hit
        → (if hit then Some (run_of h (outcome_of h (made_by (distinct k))).reply) else find (is_run site n) (answered (distinct k))) ≡ Some run
    other fresh false miss = is
    other fresh true hit =
        let key = same_key a.site site a.number n hit in
        let none : find (is_run site n) (answered (distinct k)) ≡ None
        = none_found (is_run site n) (answered (distinct k)) (answered_any site n (distinct k) ∙ rw (← key.0, ← key.1) fresh) in
        let clash : None ≡ Some run = sym none ∙ is in
        grind rules

    by : (above known : Bool) → list_any (has_key a.site a.number) (distinct k) ≡ known
        → find (is_run site n) (answered (if above && not known then h ∷ distinct k else distinct k)) ≡ Some run
    by false known is_known = is
    by true true is_known = is
    by true false is_known = other is_known (bytes_eq a.site site && (a.number == n)) refl

found_later : (between k : Journal) (site : List ℕ) (n : ℕ) (run : RunView)
    → find (is_run site n) (answered (distinct k)) ≡ Some run → find (is_run site n) (answered (distinct (between ++ k))) ≡ Some run
found_later [] k site n run is = is
found_later (Came a ∷ es) k site n run is = found_with (es ++ k) a None (check_arrival a) site n run (found_later es k site n run is)
found_later (Carried a reply ∷ es) k site n run is = found_with (es ++ k) a (Some reply) (check_arrival a) site n run (found_later es k site n run is)
found_later (Settled s m ∷ es) k site n run is = found_later es k site n run is

-- ---- repeats

-- the answer to an arrival that passes the admission checks and isn't settled goes by what was answered under its key
answer_is : (j : Journal) (a : ArrivalView) (mode : Mode) → check_arrival a ≡ Ok mode → nat_lt (mark j a.site) a.number ≡ true
    → answer j a ≡ reply_to mode a (library_after j) (find (is_run a.site a.number) (answered (distinct j)))
answer_is j a mode passed above = rw (passed, not_below (mark j a.site) a.number above) refl

-- a run gets its own reply again
own_reply : (mode : Mode) (a : ArrivalView) (l : LibraryView) (reply : ReplyView)
    → reply_to mode a l (Some (run_of (record { arrival = a; mode = mode; carried = None }) reply)) ≡ Ok reply
own_reply mode a l reply = rw (is_same_bytes a.bytes, same_number (mode_number mode)) refl
  where
    same_number : (n : ℕ) → (n == n) ≡ true
    same_number n = grind (arith, nat_tests)

-- what an arrival finds under its key once it was answered
pub found_own : (before : Journal) (a : ArrivalView) (mode : Mode) → check_arrival a ≡ Ok mode → nat_lt (mark before a.site) a.number ≡ true
    → list_any (has_key a.site a.number) (distinct before) ≡ false
    → find (is_run a.site a.number) (answered (distinct (Came a ∷ before)))
    ≡ Some (run_of (record { arrival = a; mode = mode; carried = None }) (outcome mode a (library_after before)).reply)
found_own before a mode passed above fresh = rw (heard_new before a mode passed above fresh, is_same_bytes a.site, same_number a.number) refl
  where
    same_number : (n : ℕ) → (n == n) ≡ true
    same_number n = grind (arith, nat_tests)

pub repeated : (between before : Journal) (a : ArrivalView) (mode : Mode) → check_arrival a ≡ Ok mode
    → nat_lt (mark (between ++ Came a ∷ before) a.site) a.number ≡ true → answer (between ++ Came a ∷ before) a ≡ answer before a
repeated between before a mode passed above = by_known (list_any (has_key a.site a.number) (distinct before)) refl
  where
    key : RunView → Bool
    key = is_run a.site a.number

    earlier : nat_lt (mark before a.site) a.number ≡ true
    earlier = let rises = mark_rises between (Came a ∷ before) a.site in grind (arith, nat_tests)

    later : answer (between ++ Came a ∷ before) a
        ≡ reply_to mode a (library_after (between ++ Came a ∷ before)) (find key (answered (distinct (between ++ Came a ∷ before))))
    later = answer_is (between ++ Came a ∷ before) a mode passed above

    by_found : (k : Option RunView) → find key (answered (distinct before)) ≡ k → list_any (has_key a.site a.number) (distinct before) ≡ true
        → answer (between ++ Came a ∷ before) a ≡ answer before a
    by_found None is known =
        let clash : true ≡ false = sym known ∙ sym (answered_any a.site a.number (distinct before)) ∙ missed key (answered (distinct before)) is in
        grind rules
    by_found (Some run) is known =
        let with_it = found_with before a None (check_arrival a) a.site a.number run is in
        let still = found_later between (Came a ∷ before) a.site a.number run with_it in
        let again : answer (between ++ Came a ∷ before) a ≡ reply_to mode a (library_after before) (Some run) = later ∙ rw still refl in
        let first : answer before a ≡ reply_to mode a (library_after before) (Some run) = answer_is before a mode passed earlier ∙ rw is refl in
        again ∙ sym first

    by_known : (known : Bool) → list_any (has_key a.site a.number) (distinct before) ≡ known
        → answer (between ++ Came a ∷ before) a ≡ answer before a
    by_known true known = by_found (find key (answered (distinct before))) refl known
    by_known false fresh =
        let still = found_later between (Came a ∷ before) a.site a.number _ (found_own before a mode passed earlier fresh) in
        let first : answer before a ≡ Ok (outcome mode a (library_after before)).reply
        = answer_is before a mode passed earlier
        ∙ rw (none_found key (answered (distinct before)) (answered_any a.site a.number (distinct before) ∙ fresh)) refl in
        let again : answer (between ++ Came a ∷ before) a ≡ Ok (outcome mode a (library_after before)).reply
        = later ∙ rw still (own_reply mode a (library_after (between ++ Came a ∷ before)) (outcome mode a (library_after before)).reply) in
        again ∙ sym first
