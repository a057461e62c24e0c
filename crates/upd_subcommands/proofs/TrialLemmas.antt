-- A trial needs no more of a run than the first byte beyond the limit, and fails by its refusal or for want of memory.
use Rattle.upd_subcommands.proofs.Common.{◌≡◌, ◌≤◌, ◌<◌, ◌⊎◌, inl, inr, ℕ, ◌+◌, List, length, take, Option, Result, Ok, Err, refl, ap, sym, ◌∙◌, subst, arith}
use Rattle.upd_subcommands.proofs.Common.{cases_lt, take_all, Fault, FaultKind, NoMemory, Store, Read, Write, GivesAt, FileView, exit_status, IsRunOn, trial_of}
use Rattle.std.proofs.Common.{nat_lt, Bool, true}
use Rattle.upd_core.specs.Library.{empty}
use Rattle.upd_apply.specs.Applying.{applied}
use Rattle.std.proofs.lemmas.Bool.{lt-ltb}
use Rattle.std.proofs.lemmas.List.{length-take-le}
use Rattle.upd_wire.specs.Inputs.{IsInput}
use Rattle.upd_text.specs.declared.fault.FaultKind.TheVariants.{RunLong, TooManyLines, BadByte, LineLong, BadName, BadCard, BadField, NoIdent, TextNowhere}
use Rattle.upd_text.specs.declared.fault.FaultKind.TheVariants.{NameTaken, IdentUnknown, DeckUnknown, CardUnknown, RangeOrder, DeckCard, YankText, YankSelf}
use Rattle.upd_text.specs.declared.fault.FaultKind.TheVariants.{Reserved, Full, CallUnknown, CallDepth, CompileLong, BadSite, BadNumber, BadMode, RunChanged}
use Rattle.upd_text.specs.declared.fault.FaultKind.TheVariants.{Settled, BadFrame, CutFrame}
use Rattle.upd_text.specs.declared.limits.TheConstants.{MAX_RUN_BYTES}
use Rattle.upd_text.specs.Outcome.{◌>>=◌, FailsOf, at_line, need, refuse_if}
use Rattle.upd_deck.specs.Reading.{reading}
use Rattle.upd_compile.specs.File.{compile_file_of}
use Rattle.upd_compile.specs.Modes.{mode_named}
use Rattle.upd_compile.specs.declared.mode.Mode.{Mode}
use Rattle.upd_subcommands.specs.Command.{GivesUnlessFailed}
use Rattle.upd_subcommands.specs.Trial.{trial_named}

refused : {A : Type 0} (long : Bool) (next : Bool → Result A Fault) → long ≡ true
    → at_line 0 (refuse_if long RunLong) >>= next ≡ Err (record { kind = RunLong; at = 0 })
refused long next is = ap (λ (b : Bool). at_line 0 (refuse_if b RunLong) >>= next) is

reading-long : (bytes : List ℕ) → MAX_RUN_BYTES < length bytes → reading bytes ≡ Err (record { kind = RunLong; at = 0 })
reading-long bytes long = refused (nat_lt MAX_RUN_BYTES (length bytes)) _ (lt-ltb MAX_RUN_BYTES (length bytes) long)

-- the front of a run up to the first byte beyond the limit is read as the run is
reading-front : (bytes : List ℕ) → reading (take (MAX_RUN_BYTES + 1) bytes) ≡ reading bytes
reading-front bytes = of (cases_lt (MAX_RUN_BYTES + 1) (length bytes))
  where
    of : (MAX_RUN_BYTES + 1 < length bytes) ⊎ (length bytes ≤ MAX_RUN_BYTES + 1) → reading (take (MAX_RUN_BYTES + 1) bytes) ≡ reading bytes
    of (inr short) = ap reading (take_all (MAX_RUN_BYTES + 1) bytes short)
    of (inl long) =
        let taken : length (take (MAX_RUN_BYTES + 1) bytes) ≡ MAX_RUN_BYTES + 1 = length-take-le (MAX_RUN_BYTES + 1) bytes (omega arith) in
        reading-long (take (MAX_RUN_BYTES + 1) bytes) (omega arith) ∙ sym (reading-long bytes (omega arith))

trial_of-front : (mode : Mode) (bytes : List ℕ) → trial_of mode (take (MAX_RUN_BYTES + 1) bytes) ≡ trial_of mode bytes
trial_of-front mode bytes =
    ap (λ read. read >>= (λ lines. applied lines empty >>= (λ reached. compile_file_of mode reached.compile empty reached.library))) (reading-front bytes)

-- a refusal is the defined one, or memory was wanting
failed_or_defined : {A : Type 0} (kind : FaultKind) (fault : Fault) (defined : Result A Fault)
    → FailsOf kind fault defined → (exit_status kind ≡ 3) ⊎ (defined ≡ Err fault)
failed_or_defined RunLong fault defined is = inr is
failed_or_defined TooManyLines fault defined is = inr is
failed_or_defined BadByte fault defined is = inr is
failed_or_defined LineLong fault defined is = inr is
failed_or_defined BadName fault defined is = inr is
failed_or_defined BadCard fault defined is = inr is
failed_or_defined BadField fault defined is = inr is
failed_or_defined NoIdent fault defined is = inr is
failed_or_defined TextNowhere fault defined is = inr is
failed_or_defined NameTaken fault defined is = inr is
failed_or_defined IdentUnknown fault defined is = inr is
failed_or_defined DeckUnknown fault defined is = inr is
failed_or_defined CardUnknown fault defined is = inr is
failed_or_defined RangeOrder fault defined is = inr is
failed_or_defined DeckCard fault defined is = inr is
failed_or_defined YankText fault defined is = inr is
failed_or_defined YankSelf fault defined is = inr is
failed_or_defined Reserved fault defined is = inr is
failed_or_defined Full fault defined is = inr is
failed_or_defined CallUnknown fault defined is = inr is
failed_or_defined CallDepth fault defined is = inr is
failed_or_defined CompileLong fault defined is = inr is
failed_or_defined BadSite fault defined is = inr is
failed_or_defined BadNumber fault defined is = inr is
failed_or_defined BadMode fault defined is = inr is
failed_or_defined RunChanged fault defined is = inr is
failed_or_defined Settled fault defined is = inr is
failed_or_defined NoMemory fault defined is = inl refl
failed_or_defined Store fault defined is = inr is
failed_or_defined BadFrame fault defined is = inr is
failed_or_defined CutFrame fault defined is = inr is
failed_or_defined Read fault defined is = inr is
failed_or_defined Write fault defined is = inr is

given : (result : Result FileView Fault) (defined : Result FileView Fault) → GivesAt (λ file. file) result defined → GivesUnlessFailed result defined
given (Ok file) defined is = is
given (Err fault) defined is = failed_or_defined fault.kind fault defined is

-- what a trial gives of the run on an input, it gives of the input
pub given_of_front : (word : List ℕ) (mode : Mode) (run : List ℕ) (result : Result FileView Fault) (known : Option (List ℕ))
    → at_line 0 (need BadMode (mode_named word)) ≡ Ok mode → IsRunOn known run → GivesAt (λ file. file) result (trial_of mode run)
    → (all : List ℕ) × IsInput known all × GivesUnlessFailed result (trial_named word all)
given_of_front word mode run result known read (all, is, front) gives =
    let defined : trial_of mode run ≡ trial_named word all =
    ap (trial_of mode) front ∙ trial_of-front mode all ∙ sym (ap (λ m. m >>= (λ it. trial_of it all)) read) in
    (all, is, subst (GivesUnlessFailed result) defined (given result (trial_of mode run) gives))
