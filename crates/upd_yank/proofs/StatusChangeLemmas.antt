-- The row changes of a status update take rows that show the statuses before a run to rows that show those after it.
use Rattle.upd_yank.proofs.Common.{◌≡◌, ℕ, Bool, true, false, not, ◌&&◌, ◌||◌, cond, List, [], ◌∷◌, ◌++◌, Option, Some, None, is_some, refl, ap, sym, ◌∙◌}
use Rattle.upd_yank.proofs.Common.{◌==◌, filter, flat_map, list_any, AllByRecursion, or_parts, Decides-eqb, list_any-append, CardRef, same_target, Target}
use Rattle.upd_yank.proofs.Common.{LibraryView, status_of, count_in, live_count, is_same, ChangeView, IdentNew, IdentPurged, CardNew, CardGone, CardsMoved}
use Rattle.upd_yank.proofs.Common.{EntryNew, EntriesGone, TargetNew, TargetsGone, StatusNow, CountNow, done_all, Rows, ShowsStates, count_rows, same_ref}
use Rattle.upd_yank.proofs.Common.{state_rows, TakeGone, same_ref_is, same_ref_own, is_other, kept_status, repeated_statuses, all_repeated_statuses}
use Rattle.upd_yank.proofs.Common.{count_changes, all_count_changes, update_changes, status_of_card, status_change, status_changes, zero_changes}
use Rattle.upd_diff.specs.States.{takes_card}
use Rattle.upd_diff.proofs.StateLemmas.{counts_after, state_after}
use Rattle.upd_yank.proofs.UnflippedLemmas.{is_listed, unlisted}
use Rattle.upd_yank.proofs.WorkLemmas.{all_both, is_found}
use Rattle.upd_yank.proofs.ChangedRowLemmas.{IsRightOf, tells_status, tells_count, state_is, count_is}

-- ---- the statuses that were found

not_other : (now : Bool) (was : Option Bool) → is_other now was ≡ false → was ≡ Some now
not_other now None e = absurd (cc)
not_other true (Some true) e = refl
not_other true (Some false) e = absurd (cc)
not_other false (Some true) e = absurd (cc)
not_other false (Some false) e = refl

right_statuses : (l : LibraryView) (known : CardRef → Option Bool) (found : List (CardRef × Bool)) → AllByRecursion (λ p. status_of p.0 l ≡ Some p.1) found →
    AllByRecursion (IsRightOf l) (status_changes known found)
right_statuses l known [] right = tt
right_statuses l known (p ∷ ps) right =
    all_both (IsRightOf l) (status_change known p) (status_changes known ps) (one (is_other p.1 (known p.0))) (right_statuses l known ps right.1)
  where
    one : (b : Bool) → AllByRecursion (IsRightOf l) (cond b (StatusNow p.0 p.1 ∷ []) [])
    one true = (right.0, tt)
    one false = tt

-- where what was found isn't set, the status was known
known_status : (l : LibraryView) (known : CardRef → Option Bool) (found : List (CardRef × Bool)) (r : CardRef) →
    AllByRecursion (λ p. status_of p.0 l ≡ Some p.1) found → list_any (tells_status r) (status_changes known found) ≡ false → is_found found r ≡ true →
    known r ≡ status_of r l
known_status l known [] r right untold is = absurd (cc)
known_status l known (p ∷ ps) r right untold is =
    let parts = or_parts (list_any (tells_status r) (status_change known p)) (list_any (tells_status r) (status_changes known ps))
    (sym (list_any-append (tells_status r) (status_change known p) (status_changes known ps)) ∙ untold) in
    go (is_other p.1 (known p.0)) refl (same_ref p.0 r) refl parts.0 (λ later. known_status l known ps r right.1 parts.1 later)
  where
    go : (b : Bool) → is_other p.1 (known p.0) ≡ b → (s : Bool) → same_ref p.0 r ≡ s → list_any (tells_status r) (status_change known p) ≡ false →
        (is_found ps r ≡ true → known r ≡ status_of r l) → known r ≡ status_of r l
    go b e false f none later = later (rw f at is)
    go false e true f none later =
        let one : p.0 ≡ r = same_ref_is p.0 r f in
        ap known (sym one) ∙ not_other p.1 (known p.0) e ∙ sym right.0 ∙ ap (λ x. status_of x l) one
    go true e true f none later =
        let one : p.0 ≡ r = same_ref_is p.0 r f in
        let row_changes : (same_ref r p.0 || false) ≡ false = rw e at none in
        let own : same_ref r p.0 ≡ true = ap (same_ref r) one ∙ same_ref_own r in
        absurd (let q = sym (ap (λ b. b || false) own) ∙ row_changes in cc)

-- ---- the statuses of cards that were inserted again

right_again : (l : LibraryView) (now : CardRef → Option Bool) (cs : List ChangeView) → ((r : CardRef) → now r ≡ status_of r l) →
    AllByRecursion (IsRightOf l) (all_repeated_statuses now cs)
right_again l now [] right = tt
right_again l now (c ∷ cs) right = all_both (IsRightOf l) (repeated_statuses now c) (all_repeated_statuses now cs) (one c) (right_again l now cs right)
  where
    status : (k : CardRef) (o : Option Bool) → now k ≡ o → AllByRecursion (IsRightOf l) (status_of_card k o)
    status k None e = tt
    status k (Some a) e = (sym (right k) ∙ e, tt)

    one : (c : ChangeView) → AllByRecursion (IsRightOf l) (repeated_statuses now c)
    one (CardGone k) = status k (now k) refl
    one (StatusNow card active) = tt
    one (CountNow target n) = tt
    one (IdentNew ident) = tt
    one (IdentPurged age) = tt
    one (CardNew card deck place body) = tt
    one (CardsMoved deck from by) = tt
    one (EntryNew card ord entry) = tt
    one (EntriesGone card) = tt
    one (TargetNew card ord target) = tt
    one (TargetsGone card targets) = tt

-- a card that is deleted and isn't set again isn't there
none_again : (now : CardRef → Option Bool) (cs : List ChangeView) (r : CardRef) → list_any (tells_status r) (all_repeated_statuses now cs) ≡ false →
    list_any (takes_card r) cs ≡ true → now r ≡ None
none_again now [] r untold taken = absurd (cc)
none_again now (c ∷ cs) r untold taken =
    let parts = or_parts (list_any (tells_status r) (repeated_statuses now c)) (list_any (tells_status r) (all_repeated_statuses now cs))
    (sym (list_any-append (tells_status r) (repeated_statuses now c) (all_repeated_statuses now cs)) ∙ untold) in
    one c parts.0 taken (λ later. none_again now cs r parts.1 later)
  where
    none : (k : CardRef) (o : Option Bool) → same_ref r k ≡ true → list_any (tells_status r) (status_of_card k o) ≡ false → o ≡ None
    none k None e untold = refl
    none k (Some a) e untold = absurd (let q = sym (ap (λ b. b || false) e) ∙ untold in cc)

    gone : (k : CardRef) (b : Bool) → same_ref r k ≡ b → list_any (tells_status r) (status_of_card k (now k)) ≡ false →
        (b || list_any (takes_card r) cs) ≡ true → (list_any (takes_card r) cs ≡ true → now r ≡ None) → now r ≡ None
    gone k true e untold taken later = ap now (same_ref_is r k e) ∙ none k (now k) e untold
    gone k false e untold taken later = later taken

    one : (c : ChangeView) → list_any (tells_status r) (repeated_statuses now c) ≡ false → (takes_card r c || list_any (takes_card r) cs) ≡ true →
        (list_any (takes_card r) cs ≡ true → now r ≡ None) → now r ≡ None
    one (CardGone k) untold taken later = gone k (same_ref r k) refl untold taken later
    one (StatusNow card active) untold taken later = later taken
    one (CountNow target n) untold taken later = later taken
    one (IdentNew ident) untold taken later = later taken
    one (IdentPurged age) untold taken later = later taken
    one (CardNew card deck place body) untold taken later = later taken
    one (CardsMoved deck from by) untold taken later = later taken
    one (EntryNew card ord entry) untold taken later = later taken
    one (EntriesGone card) untold taken later = later taken
    one (TargetNew card ord target) untold taken later = later taken
    one (TargetsGone card targets) untold taken later = later taken

-- ---- the counts that differ

right_counts : (l : LibraryView) (before now : Target → ℕ) (ps : List (Target × ℕ)) → ((t : Target) → now t ≡ live_count l t) →
    AllByRecursion (IsRightOf l) (flat_map (count_changes before now) ps)
right_counts l before now [] right = tt
right_counts l before now (p ∷ ps) right =
    all_both (IsRightOf l) (count_changes before now p) (flat_map (count_changes before now) ps) (one (now p.0 == before p.0))
    (right_counts l before now ps right)
  where
    one : (b : Bool) → AllByRecursion (IsRightOf l) (cond b [] (CountNow p.0 (now p.0) ∷ []))
    one true = tt
    one false = (right p.0, tt)

right_zeros : (l : LibraryView) (before now : Target → ℕ) (ps : List (Target × ℕ)) → ((t : Target) → now t ≡ live_count l t) →
    AllByRecursion (IsRightOf l) (flat_map (zero_changes before now) ps)
right_zeros l before now [] right = tt
right_zeros l before now (p ∷ ps) right =
    all_both (IsRightOf l) (zero_changes before now p) (flat_map (zero_changes before now) ps) (one (now p.0 == 0) refl (before p.0 == 0))
    (right_zeros l before now ps right)
  where
    one : (z : Bool) → (now p.0 == 0) ≡ z → (b : Bool) → AllByRecursion (IsRightOf l) (cond (z && not b) (CountNow p.0 0 ∷ []) [])
    one true e true = tt
    one true e false = (sym ((Decides-eqb (now p.0) 0).0 e) ∙ right p.0, tt)
    one false e b = tt

-- where the count of a target that is listed now isn't set, it was the same
same_count : (before now : Target → ℕ) (ps : List (Target × ℕ)) (t : Target) → list_any (tells_count t) (flat_map (count_changes before now) ps) ≡ false →
    is_listed t ps ≡ true → now t ≡ before t
same_count before now [] t untold is = absurd (cc)
same_count before now (p ∷ ps) t untold is =
    let parts = or_parts (list_any (tells_count t) (count_changes before now p)) (list_any (tells_count t) (flat_map (count_changes before now) ps))
    (sym (list_any-append (tells_count t) (count_changes before now p) (flat_map (count_changes before now) ps)) ∙ untold) in
    go (is_same t p.0) refl (now p.0 == before p.0) refl parts.0 (λ later. same_count before now ps t parts.1 later)
  where
    go : (s : Bool) → is_same t p.0 ≡ s → (b : Bool) → (now p.0 == before p.0) ≡ b → list_any (tells_count t) (count_changes before now p) ≡ false →
        (is_listed t ps ≡ true → now t ≡ before t) → now t ≡ before t
    go false e b f none later = later (rw e at is)
    go true e true f none later =
        let one : t ≡ p.0 = same_target t p.0 e in
        ap now one ∙ (Decides-eqb (now p.0) (before p.0)).0 f ∙ ap before (sym one)
    go true e false f none later = let row_changes : (is_same t p.0 || false)
        ≡ false = rw f at none in absurd (let q = sym (ap (λ b. b || false) e) ∙ row_changes in cc)

-- where the count of a target that was listed isn't set and is 0 now, it was 0
none_before : (before now : Target → ℕ) (ps : List (Target × ℕ)) (t : Target) → list_any (tells_count t) (flat_map (zero_changes before now) ps) ≡ false →
    is_listed t ps ≡ true → now t ≡ 0 → before t ≡ 0
none_before before now [] t untold is zero = absurd (cc)
none_before before now (p ∷ ps) t untold is zero =
    let parts = or_parts (list_any (tells_count t) (zero_changes before now p)) (list_any (tells_count t) (flat_map (zero_changes before now) ps))
    (sym (list_any-append (tells_count t) (zero_changes before now p) (flat_map (zero_changes before now) ps)) ∙ untold) in
    go (is_same t p.0) refl (before p.0 == 0) refl parts.0 (λ later. none_before before now ps t parts.1 later zero)
  where
    go : (s : Bool) → is_same t p.0 ≡ s → (b : Bool) → (before p.0 == 0) ≡ b → list_any (tells_count t) (zero_changes before now p) ≡ false →
        (is_listed t ps ≡ true → before t ≡ 0) → before t ≡ 0
    go false e b f none later = later (rw e at is)
    go true e true f none later = ap before (same_target t p.0 e) ∙ (Decides-eqb (before p.0) 0).0 f
    go true e false f none later =
        let now_none : (now p.0 == 0) ≡ true = (Decides-eqb (now p.0) 0).1 (ap now (sym (same_target t p.0 e)) ∙ zero) in
        let row_changes : (is_same t p.0 || false) ≡ false = rw (now_none, f) at none in
        absurd (let q = sym (ap (λ b. b || false) e) ∙ row_changes in cc)

-- a count that isn't set is as it was
untold_count : (had has : List (Target × ℕ)) (t : Target) → list_any (tells_count t) (all_count_changes had has) ≡ false → count_in has t ≡ count_in had t
untold_count had has t untold = go (is_listed t has) refl (is_listed t had) refl
  where
    now : Target → ℕ
    now = count_in has

    before : Target → ℕ
    before = count_in had

    parts : (list_any (tells_count t) (flat_map (count_changes before now) has) ≡ false)
        × (list_any (tells_count t) (flat_map (zero_changes before now) had) ≡ false)
    parts = or_parts (list_any (tells_count t) (flat_map (count_changes before now) has)) (list_any (tells_count t) (flat_map (zero_changes before now) had))
        (sym (list_any-append (tells_count t) (flat_map (count_changes before now) has) (flat_map (zero_changes before now) had)) ∙ untold)

    go : (a : Bool) → is_listed t has ≡ a → (b : Bool) → is_listed t had ≡ b → now t ≡ before t
    go true e b f = same_count before now has t parts.0 e
    go false e true f = unlisted has t e ∙ sym (none_before before now had t parts.1 f (unlisted has t e))
    go false e false f = unlisted has t e ∙ sym (unlisted had t f)

-- ---- all row changes

-- what a status update has found, has kept, and takes from a run
pub record IsSettled (old new : LibraryView) (known found kept : List (CardRef × Bool)) (run : List ChangeView) (had has : List (Target × ℕ)) : Type 0 where
  pub before : (r : CardRef) → kept_status known r ≡ status_of r old
  pub right : AllByRecursion (λ p. status_of p.0 new ≡ Some p.1) found
  pub after : (r : CardRef) → kept_status kept r ≡ status_of r new
  pub stayed : (r : CardRef) → is_found found r ≡ false → is_some (status_of r new) ≡ true → kept_status known r ≡ status_of r new
  pub counted : (t : Target) → count_in had t ≡ live_count old t
  pub counts : (t : Target) → count_in has t ≡ live_count new t
  pub taken : TakeGone old new run

-- rows that show the statuses before show those after, once the changes of the run and of the update are carried out
pub update_shows : (old new : LibraryView) (known found kept : List (CardRef × Bool)) (run : List ChangeView) (had has : List (Target × ℕ)) (rows : Rows) →
    IsSettled old new known found kept run had has → ShowsStates rows old →
    ShowsStates (done_all (update_changes known found kept run had has) (done_all run rows)) new
update_shows old new known found kept run had has rows is shown = record {
  states = λ r. state_is new all (done_all run rows) r right ∙ state r (list_any (tells_status r) all) refl;
  counts = λ t. count_is new all (done_all run rows) t right ∙ count t (list_any (tells_count t) all) refl;
}
  where
    statuses : List ChangeView
    statuses = status_changes (kept_status known) found

    again : List ChangeView
    again = all_repeated_statuses (kept_status kept) run

    counts : List ChangeView
    counts = all_count_changes had has

    all : List ChangeView
    all = (statuses ++ again) ++ counts

    right : AllByRecursion (IsRightOf new) all
    right =
        all_both (IsRightOf new) (statuses ++ again) counts
        (all_both (IsRightOf new) statuses again (right_statuses new (kept_status known) found is.right) (right_again new (kept_status kept) run is.after))
        (all_both (IsRightOf new) (flat_map (count_changes (count_in had) (count_in has)) has) (flat_map (zero_changes (count_in had) (count_in has)) had)
        (right_counts new (count_in had) (count_in has) has is.counts) (right_zeros new (count_in had) (count_in has) had is.counts))

    gone : (r : CardRef) → list_any (takes_card r) run ≡ false → status_of r new ≡ None → (o : Option Bool) → status_of r old ≡ o → o ≡ None
    gone r untaken none None e = refl
    gone r untaken none (Some s) e = absurd (let q = sym (is.taken.gone r (ap is_some e) none) ∙ untaken in cc)

    found_or_stayed : (r : CardRef) (s : Bool) → list_any (tells_status r) statuses ≡ false → status_of r new ≡ Some s → (b : Bool) → is_found found r ≡ b →
        kept_status known r ≡ status_of r new
    found_or_stayed r s untold there true e = known_status new (kept_status known) found r is.right untold e
    found_or_stayed r s untold there false e = is.stayed r e (ap is_some there)

    same : (r : CardRef) → list_any (tells_status r) statuses ≡ false → list_any (takes_card r) run ≡ false → (o : Option Bool) → status_of r new ≡ o →
        status_of r old ≡ status_of r new
    same r untold untaken None e = gone r untaken e (status_of r old) refl ∙ sym e
    same r untold untaken (Some s) e = sym (is.before r) ∙ found_or_stayed r s untold e (is_found found r) refl

    row : (r : CardRef) → list_any (tells_status r) statuses ≡ false → list_any (tells_status r) again ≡ false → (b : Bool) →
        list_any (takes_card r) run ≡ b → cond b [] (filter (λ s. same_ref r s.card) rows.states) ≡ state_rows r (status_of r new)
    row r untold none true e = ap (state_rows r) (sym (sym (is.after r) ∙ none_again (kept_status kept) run r none e))
    row r untold none false e = shown.states r ∙ ap (state_rows r) (same r untold e (status_of r new) refl)

    state : (r : CardRef) (b : Bool) → list_any (tells_status r) all ≡ b →
        cond b (state_rows r (status_of r new)) (filter (λ s. same_ref r s.card) (done_all run rows).states) ≡ state_rows r (status_of r new)
    state r true e = refl
    state r false e =
        let front = or_parts (list_any (tells_status r) (statuses ++ again)) (list_any (tells_status r) counts)
        (sym (list_any-append (tells_status r) (statuses ++ again) counts) ∙ e) in
        let parts = or_parts (list_any (tells_status r) statuses) (list_any (tells_status r) again)
        (sym (list_any-append (tells_status r) statuses again) ∙ front.0) in
        state_after run rows r is.taken.silent ∙ row r parts.0 parts.1 (list_any (takes_card r) run) refl

    count : (t : Target) (b : Bool) → list_any (tells_count t) all ≡ b →
        cond b (count_rows t (live_count new t)) (filter (λ s. is_same t s.target) (done_all run rows).counts) ≡ count_rows t (live_count new t)
    count t true e = refl
    count t false e =
        let parts = or_parts (list_any (tells_count t) (statuses ++ again)) (list_any (tells_count t) counts)
        (sym (list_any-append (tells_count t) (statuses ++ again) counts) ∙ e) in
        ap (filter (λ s. is_same t s.target)) (counts_after run rows is.taken.silent) ∙ shown.counts t
        ∙ ap (count_rows t) (sym (is.counted t) ∙ sym (untold_count had has t parts.1) ∙ is.counts t)
