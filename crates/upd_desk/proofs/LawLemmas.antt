-- Laws of whole journals: which runs are distinct, what a mark is, what alike journals share, and what an arrival keeps.
use Rattle.upd_desk.proofs.Common.{◌≡◌, ℕ, ◌≤◌, ◌<◌, ◌==◌, nat_lt, nat_le, max, Bool, true, false, not, ◌&&◌, ◌||◌, ◌⊎◌, if◌then◌else◌, List, [], ◌∷◌, ◌++◌}
use Rattle.upd_desk.proofs.Common.{suc, Option, Some, None, Result, Ok, Err, inl, inr, refl, ap, sym, ◌∙◌, subst, arith, find, list_any, bytes_eq, nat_tests}
use Rattle.upd_desk.proofs.Common.{Fault, LibraryView, RunView, Mode, is_run, is_same_bytes, max_left, max_right, same_bytes, same_key, ArrivalView}
use Rattle.upd_desk.proofs.Common.{check_arrival, mode_number, Alike, Event, Came, Carried, Settled, Heard, Journal, answer, answered, distinct, has_key}
use Rattle.upd_desk.proofs.Common.{kept, made_by, mark, reply_to, run_of, with_arrival, library_after, Compiled, ReplyView, compiled, outcome, outcome_by}
use Rattle.std.proofs.Common.{zero}
use Rattle.std.specs.List.{Contains}
use Rattle.std.proofs.Math.Nat.{le-max_left}
use Rattle.upd_text.specs.declared.fault.FaultKind.TheVariants as fault
use Rattle.upd_deck.proofs.GrammarNames.{ok_same}
use Rattle.upd_laws.proofs.SoundListLemmas.{find_passes}
use Rattle.upd_desk.specs.Journal.{first_arrivals, heard, heard_one}
use Rattle.upd_desk.proofs.AlikeLemmas.{alike_more, unkept_key}
use Rattle.upd_desk.proofs.AnswerLemmas.{answer_unadmitted}
use Rattle.upd_desk.proofs.JournalLemmas.{heard_new, unheard_known}
use Rattle.upd_desk.proofs.KeptLemmas.{not_below}
use Rattle.upd_desk.proofs.RepeatLemmas.{found_own, known_where_kept, mark_rises}

-- ---- the distinct runs

-- a key is among the first arrivals where it is among all
any_first : (site : List ℕ) (n : ℕ) (hs : List Heard) → list_any (has_key site n) (first_arrivals hs) ≡ list_any (has_key site n) hs
any_first site n [] = refl
any_first site n (h ∷ hs) = go (list_any (has_key h.arrival.site h.arrival.number) hs) refl (has_key site n h) refl (any_first site n hs)
  where
    go : (known : Bool) → list_any (has_key h.arrival.site h.arrival.number) hs ≡ known → (own : Bool) → has_key site n h ≡ own
        → list_any (has_key site n) (first_arrivals hs) ≡ list_any (has_key site n) hs
        → list_any (has_key site n) (if known then first_arrivals hs else h ∷ first_arrivals hs) ≡ (own || list_any (has_key site n) hs)
    go false fresh own is rest = rw (is, rest) refl
    go true known false is rest = rest
    go true known true is rest =
        let key = same_key h.arrival.site site h.arrival.number n is in
        rest ∙ rw (← key.0, ← key.1) known

-- one arrival more
heard_more : (before : Journal) (a : ArrivalView) (carried : Option (List ℕ)) (d : Result Mode Fault) → distinct before ≡ first_arrivals (heard before)
    → with_arrival before (distinct before) a carried d ≡ first_arrivals (heard_one before a carried d ++ heard before)
heard_more before a carried (Err fault) same = same
heard_more before a carried (Ok mode) same = go (nat_lt (mark before a.site) a.number) (list_any (has_key a.site a.number) (heard before)) refl
  where
    h : Heard
    h = record { arrival = a; mode = mode; carried = carried }

    known_same : list_any (has_key a.site a.number) (distinct before) ≡ list_any (has_key a.site a.number) (heard before)
    known_same = ap (list_any (has_key a.site a.number)) same ∙ any_first a.site a.number (heard before)

    go : (above known : Bool) → list_any (has_key a.site a.number) (heard before) ≡ known
        → (if above && not (list_any (has_key a.site a.number) (distinct before)) then h ∷ distinct before else distinct before)
        ≡ first_arrivals ((if above then h ∷ [] else []) ++ heard before)
    go false known is = same
    go true true is = rw (known_same, is) same
    go true false is = rw (known_same, is) (ap (λ hs. h ∷ hs) same)

pub distinct_first : (journal : Journal) → distinct journal ≡ first_arrivals (heard journal)
distinct_first [] = refl
distinct_first (Came a ∷ before) = heard_more before a None (check_arrival a) (distinct_first before)
distinct_first (Carried a reply ∷ before) = heard_more before a (Some reply) (check_arrival a) (distinct_first before)
distinct_first (Settled s n ∷ before) = distinct_first before

-- ---- marks

pub mark_greatest : (journal : Journal) (site : List ℕ) (n : ℕ) → Contains journal (Settled site n) → n ≤ mark journal site
mark_greatest [] site n (k, less, is) = absurd (let no : k < 0 = less in omega arith)
mark_greatest (e ∷ before) site n (zero, less, is) = subst (λ e. n ≤ mark (e ∷ before) site) (sym is) own
  where
    own : n ≤ mark (Settled site n ∷ before) site
    own = rw (is_same_bytes site) (le-max_left n (mark before site))
mark_greatest (e ∷ before) site n (suc k, less, is) =
    let earlier = mark_greatest before site n (k, (let l = less in omega arith), is) in
    let rises = mark_rises (e ∷ []) before site in
    grind arith

-- what was contained still is
later : (e x : Event) (before : Journal) → Contains before x → Contains (e ∷ before) x
later e x before (k, less, is) = (suc k, (let l = less in omega arith), is)

pub mark_settled_once : (journal : Journal) (site : List ℕ) → (mark journal site ≡ 0) ⊎ Contains journal (Settled site (mark journal site))
mark_settled_once [] site = inl refl
mark_settled_once (Came a ∷ before) site = by (mark_settled_once before site)
  where
    by : (mark before site ≡ 0) ⊎ Contains before (Settled site (mark before site))
        → (mark before site ≡ 0) ⊎ Contains (Came a ∷ before) (Settled site (mark before site))
    by (inl none) = inl none
    by (inr some) = inr (later (Came a) (Settled site (mark before site)) before some)
mark_settled_once (Carried a reply ∷ before) site = by (mark_settled_once before site)
  where
    by : (mark before site ≡ 0) ⊎ Contains before (Settled site (mark before site))
        → (mark before site ≡ 0) ⊎ Contains (Carried a reply ∷ before) (Settled site (mark before site))
    by (inl none) = inl none
    by (inr some) = inr (later (Carried a reply) (Settled site (mark before site)) before some)
mark_settled_once (Settled s n ∷ before) site = go (bytes_eq s site) (nat_le n (mark before site)) refl refl (mark_settled_once before site)
  where
    Is : ℕ → Type 0
    Is m = (m ≡ 0) ⊎ Contains (Settled s n ∷ before) (Settled site m)

    old : (mark before site ≡ 0) ⊎ Contains before (Settled site (mark before site)) → Is (mark before site)
    old (inl none) = inl none
    old (inr some) = inr (later (Settled s n) (Settled site (mark before site)) before some)

    go : (same below : Bool) → bytes_eq s site ≡ same → nat_le n (mark before site) ≡ below
        → (mark before site ≡ 0) ⊎ Contains before (Settled site (mark before site))
        → Is (if same then max n (mark before site) else mark before site)
    go false below is le earlier = old earlier
    go true true is le earlier = subst Is (sym (max_right n (mark before site) le)) (old earlier)
    go true false is le earlier =
        subst Is (sym (max_left n (mark before site) le)) (inr (0, grind arith, ap (λ t. Settled t n) (same_bytes s site is)))

-- ---- alike journals

pub alike_later : (a b later : Journal) → Alike a b → Alike (later ++ a) (later ++ b)
alike_later a b [] same = same
alike_later a b (e ∷ es) same = alike_more (es ++ a) (es ++ b) e (alike_later a b es same)

pub kept_alike : (a b : Journal) → Alike a b → (site : List ℕ) (n : ℕ) → kept a site n ≡ kept b site n
kept_alike a b same site n = rw (same.marks site, same.runs) refl

pub answer_alike : (a b : Journal) (x : ArrivalView) → Alike a b → answer a x ≡ answer b x
answer_alike a b x same = rw (same.marks x.site, same.runs) refl

-- ---- what an arrival keeps

-- An answer that is a reply: the arrival passed the admission checks above its site's mark, and the reply is by what is kept under its key.
pub record IsReplied (j : Journal) (a : ArrivalView) (reply : ReplyView) : Type 0 where
  pub mode : Mode
  pub passed : check_arrival a ≡ Ok mode
  pub above : nat_lt (mark j a.site) a.number ≡ true
  pub row_changes : reply_to mode a (library_after j) (kept j a.site a.number) ≡ Ok reply

-- a refusal is no reply
no_reply : {P : Type 0} (f : Fault) (reply : ReplyView) → ◌≡◌ {A = Result ReplyView Fault} (Err f) (Ok reply) → P
no_reply f reply clash = absurd (cc)

replied : (j : Journal) (a : ArrivalView) (reply : ReplyView) → answer j a ≡ Ok reply → IsReplied j a reply
replied j a reply is = by_admission (check_arrival a) refl
  where
    higher : nat_le a.number (mark j a.site) ≡ false → nat_lt (mark j a.site) a.number ≡ true
    higher above = grind (arith, nat_tests)

    by_mark : (mode : Mode) → check_arrival a ≡ Ok mode → (settled : Bool) → nat_le a.number (mark j a.site) ≡ settled → IsReplied j a reply
    by_mark mode passed true settled =
        let refused : answer j a ≡ Err (record { kind = fault.Settled; at = 0 }) = rw (passed, settled) refl in
        no_reply (record { kind = fault.Settled; at = 0 }) reply (sym refused ∙ is)
    by_mark mode passed false above =
        let row_changes : answer j a ≡ reply_to mode a (library_after j) (kept j a.site a.number) = rw (passed, above) refl in
        record { mode = mode; passed = passed; above = higher above; row_changes = sym row_changes ∙ is }

    by_admission : (d : Result Mode Fault) → check_arrival a ≡ d → IsReplied j a reply
    by_admission (Err f) refused = no_reply f reply (sym (answer_unadmitted j a f refused) ∙ is)
    by_admission (Ok mode) passed = by_mark mode passed (nat_le a.number (mark j a.site)) refl

-- a refused run leaves the library
refused_outcome : (mode : Mode) (a : ArrivalView) (l : LibraryView) → (outcome mode a l).reply.accepted ≡ false → (outcome mode a l).library ≡ l
refused_outcome mode a l is = go (compiled mode a.bytes l) is
  where
    go : (r : Result Compiled Fault) → (outcome_by a l r).reply.accepted ≡ false → (outcome_by a l r).library ≡ l
    go (Ok done) refused = absurd (cc)
    go (Err f) refused = refl

pub refused_leaves : (j : Journal) (a : ArrivalView) (reply : ReplyView) → answer j a ≡ Ok reply → reply.accepted ≡ false
    → library_after (Came a ∷ j) ≡ library_after j
refused_leaves j a reply is refused = by (replied j a reply is)
  where
    by_kept : (mode : Mode) → check_arrival a ≡ Ok mode → nat_lt (mark j a.site) a.number ≡ true → (k : Option RunView) → kept j a.site a.number ≡ k
        → reply_to mode a (library_after j) k ≡ Ok reply → library_after (Came a ∷ j) ≡ library_after j
    by_kept mode passed above (Some run) there row_changes = ap made_by (unheard_known j a mode passed (known_where_kept j a.site a.number run there))
    by_kept mode passed above None none row_changes =
        let own = ok_same (outcome mode a (library_after j)).reply reply row_changes in
        ap made_by (heard_new j a mode passed above (unkept_key j a.site a.number above none))
        ∙ refused_outcome mode a (library_after j) (ap (λ r. r.accepted) own ∙ refused)

    by : IsReplied j a reply → library_after (Came a ∷ j) ≡ library_after j
    by its = by_kept its.mode its.passed its.above (kept j a.site a.number) refl its.row_changes

-- a run that is told again is the one of this arrival and its reply
told_run : (mode : Mode) (a : ArrivalView) (l : LibraryView) (run : RunView) (reply : ReplyView) → is_run a.site a.number run ≡ true
    → reply_to mode a l (Some run) ≡ Ok reply → run ≡ run_of (record { arrival = a; mode = mode; carried = None }) reply
told_run mode a l run reply own row_changes = go (run.mode == mode_number mode) (bytes_eq run.bytes a.bytes) refl refl row_changes
  where
    equal : (n m : ℕ) → (n == m) ≡ true → n ≡ m
    equal n m same = grind (arith, nat_tests)

    by_parts : run.mode ≡ mode_number mode → run.bytes ≡ a.bytes → record { accepted = run.accepted; text = run.reply } ≡ reply
        → run ≡ run_of (record { arrival = a; mode = mode; carried = None }) reply
    by_parts modes bytes replies =
        let key = same_key run.site a.site run.number a.number own in
        λ i. record { site = key.0 i; number = key.1 i; mode = modes i; bytes = bytes i; accepted = (replies i).accepted; reply = (replies i).text }

    by_test : Bool → Result ReplyView Fault
    by_test same = if same then Ok (record { accepted = run.accepted; text = run.reply }) else Err (record { kind = fault.RunChanged; at = 0 })

    go : (modes bytes : Bool) → (run.mode == mode_number mode) ≡ modes → bytes_eq run.bytes a.bytes ≡ bytes
        → by_test (modes && bytes) ≡ Ok reply
        → run ≡ run_of (record { arrival = a; mode = mode; carried = None }) reply
    go true true modes bytes same =
        by_parts (equal run.mode (mode_number mode) modes) (same_bytes run.bytes a.bytes bytes)
        (ok_same (record { accepted = run.accepted; text = run.reply }) reply same)
    go true false modes bytes same = absurd (cc)
    go false bytes modes other same = absurd (cc)

pub reply_kept : (j : Journal) (a : ArrivalView) (mode : Mode) (reply : ReplyView) → check_arrival a ≡ Ok mode → answer j a ≡ Ok reply
    → kept (Came a ∷ j) a.site a.number ≡ Some (run_of (record { arrival = a; mode = mode; carried = None }) reply)
reply_kept j a mode reply passed is = by (replied j a reply is)
  where
    -- what is kept under the key is what was answered under it
    unsettled : nat_lt (mark j a.site) a.number ≡ true → (hs : List Heard)
        → (if nat_le a.number (mark j a.site) then None else find (is_run a.site a.number) (answered hs)) ≡ find (is_run a.site a.number) (answered hs)
    unsettled above hs = rw (not_below (mark j a.site) a.number above) refl

    by_kept : nat_lt (mark j a.site) a.number ≡ true → (k : Option RunView) → kept j a.site a.number ≡ k → reply_to mode a (library_after j) k ≡ Ok reply
        → kept (Came a ∷ j) a.site a.number ≡ Some (run_of (record { arrival = a; mode = mode; carried = None }) reply)
    by_kept above (Some run) there row_changes =
        let same = unheard_known j a mode passed (known_where_kept j a.site a.number run there) in
        let found : find (is_run a.site a.number) (answered (distinct j)) ≡ Some run = sym (unsettled above (distinct j)) ∙ there in
        let own = find_passes (is_run a.site a.number) (answered (distinct j)) run found in
        ap (λ hs. if nat_le a.number (mark j a.site) then None else find (is_run a.site a.number) (answered hs)) same ∙ there
        ∙ ap Some (told_run mode a (library_after j) run reply own row_changes)
    by_kept above None none row_changes =
        unsettled above (distinct (Came a ∷ j)) ∙ found_own j a mode passed above (unkept_key j a.site a.number above none)
        ∙ ap (λ r. Some (run_of (record { arrival = a; mode = mode; carried = None }) r)) (ok_same (outcome mode a (library_after j)).reply reply row_changes)

    by : IsReplied j a reply → kept (Came a ∷ j) a.site a.number ≡ Some (run_of (record { arrival = a; mode = mode; carried = None }) reply)
    by its =
        let same : its.mode ≡ mode = ok_same its.mode mode (sym its.passed ∙ passed) in
        by_kept its.above (kept j a.site a.number) refl (subst (λ m. reply_to m a (library_after j) (kept j a.site a.number) ≡ Ok reply) same its.row_changes)

pub others_kept : (j : Journal) (a : ArrivalView) (site : List ℕ) (n : ℕ) → ((a.site ≡ site) × (a.number ≡ n) → ⊥)
    → kept (Came a ∷ j) site n ≡ kept j site n
others_kept j a site n other = ap (λ k. if nat_le n (mark j site) then None else k) (found (check_arrival a))
  where
    miss : (own : Bool) → (bytes_eq a.site site && (a.number == n)) ≡ own → own ≡ false
    miss false is = refl
    miss true is = absurd (other (same_key a.site site a.number n is))

    found : (d : Result Mode Fault) → find (is_run site n) (answered (with_arrival j (distinct j) a None d)) ≡ find (is_run site n) (answered (distinct j))
    found (Err f) = refl
    found (Ok mode) = go (nat_lt (mark j a.site) a.number && not (list_any (has_key a.site a.number) (distinct j)))
      where
        go : (new : Bool) → find (is_run site n) (answered (if new then record { arrival = a; mode = mode; carried = None } ∷ distinct j else distinct j))
            ≡ find (is_run site n) (answered (distinct j))
        go false = refl
        go true = rw (miss (bytes_eq a.site site && (a.number == n)) refl) refl
