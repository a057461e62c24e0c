-- Out of memory leaves an arrival unanswered, and is no failure of a store; what faults count.
use Rattle.upd_row_store.proofs.Common.{◌≡◌, ℕ, Result, Ok, Err, refl, ap, ◌∙◌, rules, arith, IsErrAnd, Fault, NoMemory, MoreFailures, failures_after}
use Rattle.upd_row_store.proofs.Common.{failures_with}
use Rattle.std.proofs.Common.{IfErr}
use Rattle.upd_text.specs.declared.fault.FaultKind.{FaultKind}
use Rattle.upd_text.specs.declared.fault.FaultKind.TheVariants.{Store}
use Rattle.upd_row_store.specs.Keeping.{IsLost, OfMemory}

pub memory_is_lost : (e : Fault) → e ≡ record { kind = NoMemory; at = 0 } → IsLost e
memory_is_lost e is = OfMemory e (rw is refl) (rw is refl)

pub lost_for_memory : {A : Type 0} (r : Result A Fault) → IsErrAnd r (λ e. e ≡ record { kind = NoMemory; at = 0 }) → IfErr r IsLost
lost_for_memory (Ok x) is = search rules
lost_for_memory (Err e) is = memory_is_lost e is

-- a fault that is no failure of a store counts none
pub uncounted : (kind : FaultKind) (n : ℕ) → ¬ (kind ≡ Store) → n ≡ failures_with kind n
uncounted Store n other = absurd (other refl)
uncounted kind n other = refl

-- a failure of the store that is counted raises the count
pub counts_more : {A : Type 0} (r : Result A Fault) (old new : ℕ) → new ≡ failures_after r old → IfErr r (λ e. e.kind ≡ Store → MoreFailures old new)
counts_more (Ok x) old new counted = tt
counts_more (Err e) old new counted = λ store. raised (counted ∙ ap (λ k. failures_with k old) store)
  where
    raised : new ≡ failures_with Store old → MoreFailures old new
    raised same = let is = same in grind arith
