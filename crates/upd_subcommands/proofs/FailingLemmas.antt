-- How commands fail.
use Rattle.upd_subcommands.proofs.Common.{◌≡◌, ◌⊎◌, inl, inr, ℕ, List, Option, Result, Ok, Err, IsErrAnd, sym, ◌∙◌, subst, arith, Fault, FaultKind}
use Rattle.upd_subcommands.proofs.Common.{NoMemory, Store, Read, Write, IsReported, exit_status, no_memory, read_failed}
use Rattle.upd_subcommands.specs.DeskCommands.{IsUnread}

-- an input that isn't read, where `?` passes on why
pub passed_unread : (result : Result ℕ Fault) (fault : Fault) → IsErrAnd result (λ e. e ≡ fault) → (fault ≡ no_memory) ⊎ (fault ≡ read_failed)
    → IsUnread result
passed_unread (Ok status) fault is why = absurd is
passed_unread (Err e) fault is why = subst (λ (f : Fault). (f ≡ no_memory) ⊎ (f ≡ read_failed)) (sym is) why

-- the status of a fault is not that of a mistake in the command line
pub no_mistake : (kind : FaultKind) → exit_status kind ≡ 2 → ⊥
no_mistake NoMemory is = absurd (omega (arith, is))
no_mistake Store is = absurd (omega (arith, is))
no_mistake Read is = absurd (omega (arith, is))
no_mistake Write is = absurd (omega (arith, is))
no_mistake _ is = absurd (omega (arith, is))

pub told_no_mistake : (kind : FaultKind) (line : List ℕ) (status : ℕ) (faults faults' : Option (List ℕ))
    → IsReported (exit_status kind) line status faults faults' → status ≡ 2 → ⊥
told_no_mistake kind line status faults faults' (inl told) is = no_mistake kind (sym told.0 ∙ is)
told_no_mistake kind line status faults faults' (inr told) is = absurd (omega (arith, told.0, is))
