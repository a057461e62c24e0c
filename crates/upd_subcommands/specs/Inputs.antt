-- Which commands read their input, and what they leave of their streams whatever they do.
use Rattle.std.specs.Prelude.{◌≡◌, ◌≢◌, ◌⊎◌, ◌+◌, ℕ, List, Option, Result, IfErr, IfOk, None}
use Rattle.upd_compile.specs.Modes.{mode_named}
use Rattle.upd_edit.specs.declared.editing.TheConstants.{MAX_TEXT_BYTES}
use Rattle.upd_text.specs.declared.fault.Fault.{Fault}
use Rattle.upd_text.specs.declared.limits.TheConstants.{MAX_RUN_BYTES}
use Rattle.upd_words.specs.declared.words.Command.{Command}
use Rattle.upd_words.specs.declared.words.Command.TheVariants.{Run, Spool, Serve, Correct, CorrectAt, CorrectParts, Try}
use Rattle.upd_words.specs.declared.words.Request.{Request}
use Rattle.upd_words.specs.declared.words.Request.TheVariants.{Trial, Library}
use Rattle.upd_subcommands.specs.Status.{exit_status}
use Rattle.upd_subcommands.specs.Streams.{IsFrontOf, IsRunOn, Stream, TakesFront, after, before}

-- ---- commands

-- the command reads a spool
abbrev pub IsSpool : Command → Type 0
IsSpool Spool = Unit {0}
IsSpool _ = ⊥

-- it hands runs in: it reads its input once the file is open
abbrev pub HandsRuns : Command → Type 0
HandsRuns Spool = Unit {0}
HandsRuns (Run site number mode since) = Unit {0}
HandsRuns _ = ⊥

-- it reads its input before the file is opened
abbrev pub ReadsFirst : Command → Type 0
ReadsFirst (Correct set) = Unit {0}
ReadsFirst (CorrectAt set since) = Unit {0}
ReadsFirst (CorrectParts set site number mode) = Unit {0}
ReadsFirst (Try mode since) = Unit {0}
ReadsFirst _ = ⊥

-- it may tell refusals on the output
abbrev pub WritesRefusals : Command → Type 0
WritesRefusals (Try mode since) = Unit {0}
WritesRefusals command = HandsRuns command

-- it may write to the fault stream though all is done: warnings, or where it listens
abbrev pub UsesFaults : Command → Type 0
UsesFaults (Try mode since) = Unit {0}
UsesFaults (Serve endpoint count) = Unit {0}
UsesFaults _ = ⊥

-- at most this number of bytes of the input is read, but by `spool`: a byte more than a run or an edited text may have
abbrev pub most_read : Command → ℕ
most_read (Correct set) = MAX_TEXT_BYTES + 1
most_read (CorrectAt set since) = MAX_TEXT_BYTES + 1
most_read (CorrectParts set site number mode) = MAX_TEXT_BYTES + 1
most_read _ = MAX_RUN_BYTES + 1

-- what is read before the file is opened
abbrev pub IsFirstRead : Command → Option (List ℕ) → Option (List ℕ) → List ℕ → Type 0
IsFirstRead (Correct set) input input' text = IsFrontOf (MAX_TEXT_BYTES + 1) input text
IsFirstRead (CorrectAt set since) input input' text = IsFrontOf (MAX_TEXT_BYTES + 1) input text
IsFirstRead (CorrectParts set site number mode) input input' text = IsFrontOf (MAX_TEXT_BYTES + 1) input text
IsFirstRead (Try mode since) input input' text = IsRunOn input text
IsFirstRead _ input input' text = input' ≡ input

-- ---- requests

-- this is so of the command of a request
abbrev pub IsOf : (Command → Type 0) → Request → Type 0
IsOf P (Library file command) = P command
IsOf P _ = ⊥

-- the request reads its input: it is for a trial in a mode that there is, or for a command that reads it
abbrev pub ReadsFor : Request → Type 0
ReadsFor (Trial mode) = mode_named mode.now ≢ None
ReadsFor (Library file command) = HandsRuns command ⊎ ReadsFirst command
ReadsFor _ = ⊥

abbrev pub most_read_for : Request → ℕ
most_read_for (Library file command) = most_read command
most_read_for _ = MAX_RUN_BYTES + 1

-- ---- streams

module _ {R W E : Type 0} (input : Stream R) (output : Stream W) (faults : Stream E) where
  -- What a command leaves of its streams at a desk, before a fault is reported.
  pub record Frames (command : Command) (ended : Result ℕ Fault) : Type 0 where
    pub front : ¬ (IsSpool command) → TakesFront (MAX_RUN_BYTES + 1) (before input) (after input)
    pub waits : ¬ (HandsRuns command) → input.new ≡ input.old
    pub refused : IfOk ended (λ status. (status ≡ 2) ⊎ ((status ≡ 1) × ¬ (WritesRefusals command)) → output.new ≡ output.old)
    pub failed : IfErr ended (λ fault. exit_status fault.kind ≡ 1 → WritesRefusals command ⊎ (output.new ≡ output.old))
    pub clean : IfOk ended (λ status. status ≡ 0 → ¬ (UsesFaults command) → faults.new ≡ faults.old)
    pub quiet : IfErr ended (λ _. ¬ (UsesFaults command) → faults.new ≡ faults.old)

  -- What a request leaves of its streams.
  pub record Spares (request : Request) (status : ℕ) : Type 0 where
    -- Of a run that is too long, no more is read than shows it. So it is of an edited text.
    pub front : ¬ (IsOf IsSpool request) → TakesFront (most_read_for request) (before input) (after input)
    pub waits : ¬ (ReadsFor request) → input.new ≡ input.old
    pub silent : (status ≡ 2) ⊎ ((status ≡ 1) × ¬ (IsOf WritesRefusals request)) → output.new ≡ output.old
    -- `try` may have written warnings, and `serve` where it listens and what came of connections.
    pub clean : ¬ (IsOf UsesFaults request) → status ≡ 0 → faults.new ≡ faults.old
