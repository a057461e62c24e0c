-- Why there is no run.
use Rattle.upd_correct.proofs.Common.{◌≡◌, ℕ, List, [], ap, ◌∙◌, subst, Result, Ok, Err, LibraryView, CorrectError}
use Rattle.upd_correct.proofs.Common.{◌+◌, length, map, part_name, Follows, refusals_of}
use Rattle.std.specs.Prelude.{IfErr}
use Rattle.upd_correct.specs.declared.refusal.CorrectError.TheVariants.{NoMemory, Refused}
use Rattle.upd_correct.specs.Parts.{IsInPart, IsPartCause, IsPartsCause, OfPart, OfParts, in_part}
use Rattle.upd_correct.specs.Causes.{IsCause}

-- a text without problems is refused for what its parts meet
pub parts_cause : {A : Type 0} (l : LibraryView) (set text : List ℕ) (result : Result A CorrectError) → refusals_of l (part_name set 1) text ≡ []
    → IfErr result (IsPartCause l set) → IfErr result (IsPartsCause l set text)
parts_cause l set text (Ok x) clean is = tt
parts_cause l set text (Err NoMemory) clean is = tt
parts_cause l set text (Err (Refused refusals)) clean is = OfParts clean is

-- a part is refused for its text or its run
pub part_refused : (l before : LibraryView) (set text : List ℕ) (runs : List (List ℕ)) (number : ℕ) (error found : CorrectError)
    → Follows l set runs before → number ≡ length runs + 1 → IsCause before (part_name set number) text error → IsInPart number error found
    → IsPartCause l set found
part_refused l before set text runs number error NoMemory was at cause is = tt
part_refused l before set text runs number NoMemory (Refused found) was at cause is = absurd is
part_refused l before set text runs number (Refused refusals) (Refused found) was at cause is =
    OfPart before runs text refusals.items was (subst (λ (n : ℕ). IsCause before (part_name set n) text (Refused refusals)) at cause)
    (is ∙ ap (λ (n : ℕ). map (in_part n) refusals.items) at)
