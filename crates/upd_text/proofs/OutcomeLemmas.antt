-- What holds after an outcome that is Ok.
use Rattle.std.proofs.Common.{◌≡◌, Bool, true, false, refl}
use Rattle.std.specs.Prelude.{Option, Some, None, Result, Ok, Err}
use Rattle.std.specs.Result.{IfOk}
use Rattle.upd_text.specs.declared.fault.FaultKind.{FaultKind}
use Rattle.upd_text.specs.Outcome.{◌>>=◌, need, refuse_if}

pub after_need : {A B : Type 0} (P : B → Type 0) (kind : FaultKind) (o : Option A) (f : A → Result B FaultKind)
    → ((a : A) → o ≡ Some a → IfOk (f a) P) → IfOk (need kind o >>= f) P
after_need P kind None f h = tt
after_need P kind (Some a) f h = h a refl

pub after_refusal : {B : Type 0} (P : B → Type 0) (bad : Bool) (kind : FaultKind) (f : Bool → Result B FaultKind)
    → (bad ≡ false → IfOk (f bad) P) → IfOk (refuse_if bad kind >>= f) P
after_refusal P true kind f h = tt
after_refusal P false kind f h = h refl
