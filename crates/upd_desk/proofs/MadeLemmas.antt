-- The library after each journal is as runs make it, and what is accepted goes through the admission checks and three steps.
use Rattle.upd_desk.proofs.Common.{◌≡◌, ℕ, Bool, true, false, not, List, [], ◌∷◌, Option, Some, None, Result, Ok, Err, refl, Fault, FaultKind, at_line, need}
use Rattle.upd_desk.proofs.Common.{refuse_if, LibraryView, empty, LineView, reading, applied, Mode, compile_file_of, mode_named, run_sound, run_whole}
use Rattle.upd_desk.proofs.Common.{run_within, is_run_number, is_site, ArrivalView, check_arrival, check_key, Heard, Journal, distinct, made_by, outcome_of}
use Rattle.upd_desk.proofs.Common.{library_after, IsMade, Compiled, compiled, outcome, outcome_by}
use Rattle.upd_text.specs.declared.fault.FaultKind.TheVariants as fault
use Rattle.upd_laws.proofs.ReadRunLemmas.{empty_made, run_made}
use Rattle.upd_apply.proofs.BindLemmas.{bind_ok, holds_of}
use Rattle.upd_laws.proofs.SoundRunLemmas.{empty_sound}

-- ---- a run that is accepted

-- What it went through: it was read, applied and compiled.
pub record IsAccepted (mode : Mode) (bytes : List ℕ) (l : LibraryView) (done : Compiled) : Type 0 where
  pub lines : List LineView
  pub read : reading bytes ≡ Ok lines
  pub applied : applied lines l ≡ Ok done.reached
  pub file : compile_file_of mode done.reached.compile l done.reached.library ≡ Ok done.file

pub accepted : (mode : Mode) (bytes : List ℕ) (l : LibraryView) (done : Compiled) → compiled mode bytes l ≡ Ok done → IsAccepted mode bytes l done
accepted mode bytes l done h =
    bind_ok (reading bytes) _ done (IsAccepted mode bytes l done) h (λ lines e h1.
    bind_ok (applied lines l) _ done (IsAccepted mode bytes l done) h1 (λ reached f h2.
    bind_ok (compile_file_of mode reached.compile l reached.library) _ done (IsAccepted mode bytes l done) h2 (λ file g h3.
    holds_of {E = Fault} (IsAccepted mode bytes l) (record { reached = reached; file = file }) done h3
    (record { lines = lines; read = e; applied = f; file = g }))))

pub accepted_made : (mode : Mode) (bytes : List ℕ) (l : LibraryView) (done : Compiled) → IsMade l → compiled mode bytes l ≡ Ok done
    → IsMade done.reached.library
accepted_made mode bytes l done made h =
    let run = accepted mode bytes l done h in
    record {
      sound = run_sound run.lines l done.reached made.sound run.applied;
      whole = run_whole run.lines l done.reached made.whole run.applied;
      within = run_within run.lines l done.reached made.within run.applied;
      texts = run_made run.lines l done.reached (bytes, run.read) made.texts run.applied;
    }

-- ---- all journals

pub outcome_made : (mode : Mode) (a : ArrivalView) (l : LibraryView) → IsMade l → IsMade (outcome mode a l).library
outcome_made mode a l made = go (compiled mode a.bytes l) refl
  where
    go : (r : Result Compiled Fault) → compiled mode a.bytes l ≡ r → IsMade (outcome_by a l r).library
    go (Ok done) e = accepted_made mode a.bytes l done made e
    go (Err f) e = made

empty_is_made : IsMade empty
empty_is_made = record { sound = empty_sound; whole = refl; within = refl; texts = empty_made }

runs_made : (runs : List Heard) → IsMade (made_by runs)
runs_made [] = empty_is_made
runs_made (h ∷ earlier) = go h.carried (runs_made earlier)
  where
    go : (carried : Option (List ℕ)) → IsMade (made_by earlier)
        → IsMade (outcome_of (record { arrival = h.arrival; mode = h.mode; carried = carried }) (made_by earlier)).library
    go None made = outcome_made h.mode h.arrival (made_by earlier) made
    go (Some reply) made = made

pub library_made : (journal : Journal) → IsMade (library_after journal)
library_made journal = runs_made (distinct journal)

-- ---- the admission checks

-- What has passed the admission checks: a site, a number, and a word for the mode.
pub record HasPassed (a : ArrivalView) (mode : Mode) : Type 0 where
  pub site : is_site a.site ≡ true
  pub number : is_run_number a.number ≡ true
  pub word : mode_named a.mode ≡ Some mode

unrefused : (ok : Bool) (kind : FaultKind) (x : Bool) → at_line 0 (refuse_if (not ok) kind) ≡ Ok x → ok ≡ true
unrefused true kind x h = refl
unrefused false kind x h = absurd (cc)

named : (o : Option Mode) (mode : Mode) → at_line 0 (need fault.BadMode o) ≡ Ok mode → o ≡ Some mode
named (Some m) mode h = holds_of {E = Fault} (λ x. Some m ≡ Some x) m mode h refl
named None mode h = absurd (cc)

pub passed : (a : ArrivalView) (mode : Mode) → check_arrival a ≡ Ok mode → HasPassed a mode
passed a mode h =
    bind_ok (check_key a.site a.number) _ mode (HasPassed a mode) h (λ number e h1.
    bind_ok (at_line 0 (refuse_if (not (is_site a.site)) fault.BadSite)) _ number (HasPassed a mode) e (λ site f e1.
    bind_ok (at_line 0 (need fault.BadMode (mode_named a.mode))) _ mode (HasPassed a mode) h1 (λ word g h2.
    bind_ok (at_line 0 (refuse_if _ fault.RunLong)) _ mode (HasPassed a mode) h2 (λ long k h3.
    holds_of {E = Fault} (HasPassed a) word mode h3 (record {
      site = unrefused (is_site a.site) fault.BadSite site f;
      number = unrefused (is_run_number a.number) fault.BadNumber number e1;
      word = named (mode_named a.mode) word g;
    })))))
