-- What commands leave, and how they fail.
use Rattle.std.proofs.Common.{◌≡◌, ◌⊎◌, inl, inr, ◌+◌, ℕ, List, Option, Result, Ok, Err, IfErr, IfOk, ap, arith, subst, sym, ◌∙◌}
use Rattle.upd_text.specs.declared.fault.Fault.{Fault}
use Rattle.upd_text.specs.declared.fault.FaultKind.TheVariants.{Write}
use Rattle.upd_text.specs.declared.limits.TheConstants.{MAX_RUN_BYTES}
use Rattle.upd_row_store.specs.Keeping.{IsLost}
use Rattle.upd_row_store.specs.Keeping.IsLost.{OfMemory, OfStore}
use Rattle.upd_store.specs.Faults.{IsUnopened}
use Rattle.upd_subcommands.specs.Command.{IsEndOf}
use Rattle.upd_subcommands.specs.Inputs.{Frames, HandsRuns, IsSpool, ReadsFirst, most_read}
use Rattle.upd_subcommands.specs.Status.{exit_status, no_memory, read_failed}
use Rattle.upd_subcommands.specs.Streams.{Stream, TakesFront, before}
use Rattle.upd_subcommands.proofs.FailingLemmas.{told_no_mistake}
use Rattle.upd_subcommands.proofs.StreamLemmas.{takes_nothing}
use Rattle.upd_words.specs.declared.words.Command.{Command}
use Rattle.upd_words.specs.declared.words.Command.TheVariants.{Run, Settle, Spool, Serve, Correct, CorrectAt, CorrectParts, Try, Ask}

-- a file that isn't opened ends a command as memory and the store do
pub unopened_fails : (fault : Fault) → IsUnopened fault → exit_status fault.kind ≡ 3
unopened_fails fault (inl (OfMemory f is at)) = ap exit_status is
unopened_fails fault (inl (OfStore f is at)) = ap exit_status is
unopened_fails fault (inr is) = ap exit_status is

-- so does a copy that can't be made
pub backup_fails : (fault : Fault) → IsLost fault ⊎ (fault.kind ≡ Write) → exit_status fault.kind ≡ 3
backup_fails fault (inl lost) = unopened_fails fault (inl lost)
backup_fails fault (inr is) = ap exit_status is

pub compact_fails : (fault : Fault) → IsUnopened fault ⊎ (fault.kind ≡ Write) → exit_status fault.kind ≡ 3
compact_fails fault (inl unopened) = unopened_fails fault unopened
compact_fails fault (inr is) = ap exit_status is

-- and an input that isn't read
pub unread_fails : (fault : Fault) → (fault ≡ no_memory) ⊎ (fault ≡ read_failed) → exit_status fault.kind ≡ 3
unread_fails fault (inl is) = ap (λ (f : Fault). exit_status f.kind) is
unread_fails fault (inr is) = ap (λ (f : Fault). exit_status f.kind) is

-- a command that leaves all streams as they were
pub untouched_frames : {R W E : Type 0} (input : Stream R) (output : Stream W) (faults : Stream E) (command : Command) (fault : Fault)
    → exit_status fault.kind ≡ 3 → input.new ≡ input.old → output.new ≡ output.old → faults.new ≡ faults.old
    → Frames input output faults command (Err fault)
untouched_frames input output faults command fault failed unread unwritten quiet = record {
  front = λ other. subst (TakesFront (MAX_RUN_BYTES + 1) (before input)) (sym (ap input.bytes unread)) (takes_nothing (MAX_RUN_BYTES + 1) (before input));
  waits = λ other. unread;
  refused = tt;
  failed = λ one. inr unwritten;
  clean = tt;
  quiet = λ other. quiet;
}

-- what is known of a library that was opened either way
pub either : {T E : Type 0} (l : Result T E) {A B C D : T → Type 0} {P Q R : E → Type 0} {G : Type 0}
    → IfOk l A → IfOk l B → IfOk l C → IfOk l D → IfErr l P → IfErr l Q → IfErr l R
    → ((s : T) → A s → B s → C s → D s → G) → ((s : E) → P s → Q s → R s → G) → G
either (Ok s) a b c d p q r ok err = ok s a b c d
either (Err s) a b c d p q r ok err = err s p q r

-- what is owed of a library that was opened this way, and nothing of one that was opened the other way
pub of_ok : {T E : Type 0} (A : T → Type 0) (l : Result T E) (s : T) → l ≡ Ok s → A s → IfOk l A
of_ok A l s is held = subst (λ r. IfOk r A) (sym is) held

pub of_err : {T E : Type 0} (P : E → Type 0) (l : Result T E) (e : E) → l ≡ Err e → P e → IfErr l P
of_err P l e is held = subst (λ r. IfErr r P) (sym is) held

pub no_err : {T E : Type 0} (P : E → Type 0) (l : Result T E) (s : T) → l ≡ Ok s → IfErr l P
no_err P l s is = subst (λ r. IfErr r P) (sym is) tt

pub no_ok : {T E : Type 0} (A : T → Type 0) (l : Result T E) (e : E) → l ≡ Err e → IfOk l A
no_ok A l e is = subst (λ r. IfOk r A) (sym is) tt

-- ---- what is read first, and then at the desk

-- all that is read is read before the file is opened, or after it
pub front_all : (command : Command) (old mid new : Option (List ℕ)) → TakesFront (most_read command) old mid → (¬ (ReadsFirst command) → mid ≡ old)
    → (¬ (HandsRuns command) → new ≡ mid) → (¬ (IsSpool command) → TakesFront (MAX_RUN_BYTES + 1) mid new) → ¬ (IsSpool command)
    → TakesFront (most_read command) old new
front_all (Run site number mode since) old mid new first none waits front other =
    subst (λ i. TakesFront (MAX_RUN_BYTES + 1) i new) (none (λ no. no)) (front other)
front_all Spool old mid new first none waits front other = absurd (other tt)
front_all (Settle site number) old mid new first none waits front other = subst (TakesFront (MAX_RUN_BYTES + 1) old) (sym (waits (λ no. no))) first
front_all (Serve endpoint count) old mid new first none waits front other = subst (TakesFront (MAX_RUN_BYTES + 1) old) (sym (waits (λ no. no))) first
front_all (Correct set) old mid new first none waits front other = subst (TakesFront (most_read (Correct set)) old) (sym (waits (λ no. no))) first
front_all (CorrectAt set since) old mid new first none waits front other = subst (TakesFront (most_read (Correct set)) old) (sym (waits (λ no. no))) first
front_all (CorrectParts set site number mode) old mid new first none waits front other =
    subst (TakesFront (most_read (Correct set)) old) (sym (waits (λ no. no))) first
front_all (Try mode since) old mid new first none waits front other = subst (TakesFront (MAX_RUN_BYTES + 1) old) (sym (waits (λ no. no))) first
front_all (Ask query) old mid new first none waits front other = subst (TakesFront (MAX_RUN_BYTES + 1) old) (sym (waits (λ no. no))) first

-- ---- how the end is told

-- where a command is refused without a word on the output, or makes a mistake, nothing is there
pub silent_end : (Same Writes : Type 0) (ended : Result ℕ Fault) (status : ℕ) (faults faults' : Option (List ℕ)) → IsEndOf ended status faults faults'
    → IfOk ended (λ meant. (meant ≡ 2) ⊎ ((meant ≡ 1) × ¬ Writes) → Same) → IfErr ended (λ fault. exit_status fault.kind ≡ 1 → Writes ⊎ Same)
    → (status ≡ 2) ⊎ ((status ≡ 1) × ¬ Writes) → Same
silent_end Same Writes (Ok meant) status faults faults' told refused failed (inl two) = refused (inl (sym told.0 ∙ two))
silent_end Same Writes (Ok meant) status faults faults' told refused failed (inr one) = refused (inr (sym told.0 ∙ one.0, one.1))
silent_end Same Writes (Err fault) status faults faults' told refused failed (inl two) = absurd (told_no_mistake fault.kind _ status faults faults' told two)
silent_end Same Writes (Err fault) status faults faults' (inl told) refused failed (inr one) =
    elim (failed (sym told.0 ∙ one.0)) [
      | inl tells ↦ absurd (one.1 tells)
      | inr same ↦ same
    ]
silent_end Same Writes (Err fault) status faults faults' (inr told) refused failed (inr one) = absurd (omega (arith, told.0, one.0))

-- where all is done, nothing was reported before the end
pub clean_end : (Same Uses : Type 0) (ended : Result ℕ Fault) (status : ℕ) (faults faults' : Option (List ℕ)) → IsEndOf ended status faults faults'
    → IfOk ended (λ meant. meant ≡ 0 → ¬ Uses → Same) → IfErr ended (λ _. ¬ Uses → Same) → ¬ Uses → status ≡ 0 → Same
clean_end Same Uses (Ok meant) status faults faults' told clean quiet other zero = clean (sym told.0 ∙ zero) other
clean_end Same Uses (Err fault) status faults faults' told clean quiet other zero = quiet other
