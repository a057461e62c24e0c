-- A fault that `?` passes on.
use Rattle.upd_migrate.proofs.Common.{◌≡◌, Result, Ok, Err, sym, subst}
use Rattle.std.proofs.Common.{IfErr, IsErrAnd}
use Rattle.upd_text.specs.declared.fault.Fault.{Fault}

-- what holds of the fault holds where it is passed on
pub passed_on : {X : Type 0} (P : Fault → Type 0) (result : Result X Fault) (fault : Fault) → IsErrAnd result (λ e. e ≡ fault) → P fault → IfErr result P
passed_on P (Ok x) fault is h = absurd is
passed_on P (Err e) fault is h = subst P (sym is) h
