-- A compile file written event by event is the file of its walk.
use Rattle.upd_compile.proofs.Common.{◌≡◌, ◌+◌, nat_lt, Bool, true, false, cond, List, [], ◌∷◌, ◌++◌, length, take, Some, None, Ok, Err, Result, refl, sym}
use Rattle.upd_compile.proofs.Common.{ap, ◌∙◌, subst, arith, count_by, filter_map, flat_map, FaultKind, Ident, ActiveCardView, ◌>>=◌, FileView, written}
use Rattle.upd_compile.proofs.Common.{ProgressView, after_events, at_start, WalkEvent, Line, Follow, Depth, Unknown}
use Rattle.std.proofs.Common.{zero-add, add-zero, append_assoc, append-nil}
use Rattle.std.proofs.lemmas.List.{length-append}
use Rattle.std.specs.List.{enumerate_from}
use Rattle.std.proofs.Math.Seq.{take-append_seam}
use Rattle.std.proofs.lemmas.List.Sums.{sum_by-append, sum_by-cons}
use Rattle.upd_text.specs.declared.fault.FaultKind.TheVariants.{CompileLong}
use Rattle.upd_text.specs.declared.limits.TheConstants.{MAX_COMPILE_LINES, MAX_CALLS}
use Rattle.upd_text.specs.Outcome.{at_line}
use Rattle.upd_compile.specs.File.{card_line, event_fault, event_line, is_follow, is_line, walk_faults}
use Rattle.upd_compile.specs.Progress.{file_so_far}

-- what these events add, unless there is a fault
abbrev pub Adds : List Ident → List WalkEvent → ProgressView → List FaultKind → Type 0
Adds idents events p (kind ∷ kinds) = after_events idents events p ≡ Err kind
Adds idents events p [] =
    (after_events idents events p >>= (λ q. let r : Result FileView FaultKind = Ok (file_so_far q) in r))
    ≡ Ok (record { bytes = p.bytes ++ flat_map (event_line idents) events; lines = p.lines + count_by is_line events })

-- a line more, and a call more
Adds-line : (idents : List Ident) (card : ActiveCardView) (events : List WalkEvent) (p : ProgressView) (kinds : List FaultKind)
    → nat_lt p.lines MAX_COMPILE_LINES ≡ true
    → Adds idents events (record { bytes = p.bytes ++ card_line idents card; lines = p.lines + 1; calls = p.calls }) kinds
    → Adds idents (Line card ∷ events) p kinds
Adds-line idents card events p (kind ∷ kinds) h adds = rw h adds
Adds-line idents card events p [] h adds =
    let lines : p.lines + count_by is_line (Line card ∷ events) ≡ (p.lines + 1) + count_by is_line events =
    rw (sum_by-cons (λ e. cond (is_line e) 1 0) (Line card) events) (omega arith) in
    rw (h, lines, ← append_assoc p.bytes (card_line idents card) (flat_map (event_line idents) events)) adds

Adds-follow : (idents : List Ident) (events : List WalkEvent) (p : ProgressView) (kinds : List FaultKind) → nat_lt p.calls MAX_CALLS ≡ true
    → Adds idents events (record { bytes = p.bytes; lines = p.lines; calls = p.calls + 1 }) kinds → Adds idents (Follow ∷ events) p kinds
Adds-follow idents events p (kind ∷ kinds) h adds = rw h adds
Adds-follow idents events p [] h adds = rw h adds

-- a file so far has what these events have added
pub record IsAfter (before : List WalkEvent) (p : ProgressView) : Type 0 where
  pub lines : count_by is_line before ≡ p.lines
  pub calls : count_by is_follow before ≡ p.calls

-- the counts with one event more
count-one : (test : WalkEvent → Bool) (before : List WalkEvent) (e : WalkEvent) → count_by test (before ++ e ∷ []) ≡ count_by test before + cond (test e) 1 0
count-one test before e = sum_by-append (λ e. cond (test e) 1 0) before (e ∷ []) ∙ ap (λ n. count_by test before + n) (zero-add (cond (test e) 1 0))

-- the events before one, among all
before-one : (all before events : List WalkEvent) → all ≡ before ++ events → take (length before) all ≡ before
before-one all before events is = rw is (take-append_seam before events)

-- one event further on
further : (all before events : List WalkEvent) (e : WalkEvent) → all ≡ before ++ e ∷ events → all ≡ (before ++ e ∷ []) ++ events
further all before events e is = is ∙ sym (append_assoc before (e ∷ []) events)

abbrev pub faults_from : List WalkEvent → List WalkEvent → List WalkEvent → List FaultKind
faults_from all before events = filter_map (λ e. event_fault (take e.0 all) e.1) (enumerate_from (length before) events)

faults_from-more : (all before events : List WalkEvent) (e : WalkEvent) → all ≡ before ++ e ∷ events → event_fault before e ≡ None
    → faults_from all before (e ∷ events) ≡ faults_from all (before ++ e ∷ []) events
faults_from-more all before events e is none = rw (before-one all before (e ∷ events) is, none, length-append before (e ∷ [])) refl

faults_from-fault : (all before events : List WalkEvent) (e : WalkEvent) (kind : FaultKind) → all ≡ before ++ e ∷ events → event_fault before e ≡ Some kind
    → faults_from all before (e ∷ events) ≡ kind ∷ faults_from all (before ++ e ∷ []) events
faults_from-fault all before events e kind is some = rw (before-one all before (e ∷ events) is, some, length-append before (e ∷ [])) refl

-- with what the rest adds, once this line or call is counted
add-line : (idents : List Ident) (all before events : List WalkEvent) (card : ActiveCardView) (p : ProgressView) → all ≡ before ++ Line card ∷ events
    → IsAfter before p
    → ((q : ProgressView) → IsAfter (before ++ Line card ∷ []) q → Adds idents events q (faults_from all (before ++ Line card ∷ []) events))
    → Adds idents (Line card ∷ events) p (faults_from all before (Line card ∷ events))
add-line idents all before events card p is after rest = of (nat_lt p.lines MAX_COMPILE_LINES) refl
  where
    of : (room : Bool) → nat_lt p.lines MAX_COMPILE_LINES ≡ room → Adds idents (Line card ∷ events) p (faults_from all before (Line card ∷ events))
    of true room =
        subst (Adds idents (Line card ∷ events) p) (sym (faults_from-more all before events (Line card) is (rw (after.lines, room) refl)))
        (Adds-line idents card events p _ room (rest (record { bytes = p.bytes ++ card_line idents card; lines = p.lines + 1; calls = p.calls }) (record {
          lines = count-one is_line before (Line card) ∙ ap (λ n. n + 1) after.lines;
          calls = count-one is_follow before (Line card) ∙ add-zero (count_by is_follow before) ∙ after.calls;
        })))
    of false full =
        subst (Adds idents (Line card ∷ events) p) (sym (faults_from-fault all before events (Line card) CompileLong is (rw (after.lines, full) refl)))
        (rw full refl)

add-follow : (idents : List Ident) (all before events : List WalkEvent) (p : ProgressView) → all ≡ before ++ Follow ∷ events → IsAfter before p
    → ((q : ProgressView) → IsAfter (before ++ Follow ∷ []) q → Adds idents events q (faults_from all (before ++ Follow ∷ []) events))
    → Adds idents (Follow ∷ events) p (faults_from all before (Follow ∷ events))
add-follow idents all before events p is after rest = of (nat_lt p.calls MAX_CALLS) refl
  where
    of : (room : Bool) → nat_lt p.calls MAX_CALLS ≡ room → Adds idents (Follow ∷ events) p (faults_from all before (Follow ∷ events))
    of true room =
        subst (Adds idents (Follow ∷ events) p) (sym (faults_from-more all before events Follow is (rw (after.calls, room) refl)))
        (Adds-follow idents events p _ room (rest (record { bytes = p.bytes; lines = p.lines; calls = p.calls + 1 }) (record {
          lines = count-one is_line before Follow ∙ add-zero (count_by is_line before) ∙ after.lines;
          calls = count-one is_follow before Follow ∙ ap (λ n. n + 1) after.calls;
        })))
    of false full =
        subst (Adds idents (Follow ∷ events) p) (sym (faults_from-fault all before events Follow CompileLong is (rw (after.calls, full) refl))) (rw full refl)

events-add : (idents : List Ident) (all before events : List WalkEvent) (p : ProgressView) → all ≡ before ++ events → IsAfter before p
    → Adds idents events p (faults_from all before events)
events-add idents all before [] p is after = simp (append-nil, add-zero)
events-add idents all before (Line card ∷ events) p is after =
    add-line idents all before events card p is after
    (λ q. events-add idents all (before ++ Line card ∷ []) events q (further all before events (Line card) is))
events-add idents all before (Follow ∷ events) p is after =
    add-follow idents all before events p is after (λ q. events-add idents all (before ++ Follow ∷ []) events q (further all before events Follow is))
events-add idents all before (Depth ∷ events) p is after = refl
events-add idents all before (Unknown ∷ events) p is after = refl

-- what is written at the end of a walk
pub written-is : (idents : List Ident) (events : List WalkEvent)
    → written idents events ≡ at_line 0 (after_events idents events at_start >>= (λ q. let r : Result FileView FaultKind = Ok (file_so_far q) in r))
written-is idents events = ends (walk_faults events) refl (events-add idents events [] events at_start refl (record { lines = refl; calls = refl }))
  where
    ends : (kinds : List FaultKind) → walk_faults events ≡ kinds → Adds idents events at_start kinds
        → written idents events ≡ at_line 0 (after_events idents events at_start >>= (λ q. let r : Result FileView FaultKind = Ok (file_so_far q) in r))
    ends (kind ∷ kinds) e adds = rw (e, adds) refl
    ends [] e adds = rw (e, adds, zero-add) refl
