-- What a crash leaves of a store with rows in memory.
use Rattle.std.specs.Prelude.{◌≡◌, refl, Option, None}
use Rattle.std.proofs.Common.{subst, sym}
use Rattle.std.proofs.Math.Logic.{∥∥₁_map}
use Rattle.upd_records.specs.Rows.{Rows}
use Rattle.upd_memory.specs.Mirrored.{AgreesIfAny}
use Rattle.upd_memory.specs.declared.mirror.Mirror.{Mirror}

-- where there is no mirror, it agrees with all tables
pub none_agrees : (m : Option Mirror) (rows : Rows) → m ≡ None → AgreesIfAny m rows
none_agrees m rows none = subst (λ o. AgreesIfAny o rows) (sym none) tt

-- a crash leaves an image of the store below, and no mirror
pub left_over : {I : Type 0} (may : I → Type 0) → ∥ ((i : I) × may i) ∥₁ → ∥ ((i : I × Option Mirror) × (may i.0 × (i.1 ≡ None))) ∥₁
left_over may left = ∥∥₁_map left (λ p. ((p.0, None), (p.1, refl)))
