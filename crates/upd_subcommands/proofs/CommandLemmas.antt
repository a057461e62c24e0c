-- A command that ended so, and is told so, has answered what is defined.
use Rattle.upd_subcommands.proofs.Common.{◌≡◌, inl, inr, ℕ, List, [], Option, Result, Ok, Err, IsErrAnd, refl, ap, sym, ◌∙◌, subst, Fault}
use Rattle.upd_subcommands.proofs.Common.{FaultKind, Write, FileView, ending, fault_line}
use Rattle.std.proofs.Common.{◌≢◌, Some, None, IsSomeAnd}
use Rattle.std.specs.Io.KnownBytes.{Appends}
use Rattle.upd_subcommands.specs.Command.{Answers, EndsTrial, IsEnd, LeavesOutput, answer_to}
use Rattle.upd_wire.proofs.FrontLemmas.{front_all}

-- a result that is this error
pub error_is : {T : Type 0} (result : Result T Fault) (fault : Fault) → IsErrAnd result (λ e. e ≡ fault) → result ≡ Err fault
error_is (Ok x) fault is = absurd is
error_is (Err e) fault is = ap Err is

-- nothing may be left by any fault
pub nothing_left : (kind : FaultKind) (output output' : Option (List ℕ)) (bytes : List ℕ) → Appends output output' [] → LeavesOutput kind output output' bytes
nothing_left Write output output' bytes nothing = ([], bytes, refl, nothing)
nothing_left _ output output' bytes nothing = nothing

pub answered : {U : Type 0} (ended : Result U Fault) (status : ℕ) (defined : Result FileView Fault) (output output' faults faults' : Option (List ℕ))
    → EndsTrial ended output output' defined → IsEnd ended status faults faults'
    → Answers (answer_to defined) (ending status output output' faults faults')
answered (Ok u) status (Ok file) output output' faults faults' ends told = inl (told.0, ends, told.1)
answered (Ok u) status (Err fault) output output' faults faults' ends told = absurd ends
answered (Err fault) status defined output output' faults faults' (inl refused) (inl told) =
    let IsAnswered : Result FileView Fault → Type 0 = λ d. Answers (answer_to d) (ending status output output' faults faults') in
    subst IsAnswered (sym refused.0) (inl (told.0, refused.1, told.1))
answered (Err fault) status defined output output' faults faults' (inl refused) (inr unsaid) =
    inr (
      unsaid.0,
      (
        fault,
        inr (ap (λ d. (answer_to d).faults) refused.0),
        nothing_left fault.kind output output' (answer_to defined).output refused.1,
        unsaid.1,
      ),
    )
answered (Err fault) status defined output output' faults faults' (inr failed) (inl told) =
    inr (told.0 ∙ failed.0, (fault, inl failed.0, failed.1, front_all faults faults' (fault_line fault) told.1))
answered (Err fault) status defined output output' faults faults' (inr failed) (inr unsaid) = inr (unsaid.0, (fault, inl failed.0, failed.1, unsaid.1))

-- what is not there isn't one
pub none_of : {X : Type 0} (o : Option X) → ¬ (o ≢ None) → o ≡ None
none_of None some = refl
none_of {X} (Some x) some = absurd (some (λ is. subst (λ (o : Option X). IsSomeAnd o (λ _. Unit {0})) is tt))
