use Rattle.upd_migrate.proofs.Common.{◌≡◌, ◌⊎◌, ℕ, inl, state, HasCleanDisk, HasVersion}
use Rattle.upd_row_store.specs.Keeping.{OfMemory}
use Rattle.upd_migrate.proofs.PassedFaults.{passed_on}
use Rattle.upd_migrate.proofs.loading.load_rows.Goals as goal

pub returns-in-Err-assembled-clause-unopened : goal.returns-in-Err-assembled-clause-unopened
returns-in-Err-assembled-clause-unopened g c = inl (OfMemory _ c.no_memory.ensures.kind c.no_memory.ensures.at)

pub returns-in_err-version-clause-version : goal.returns-in_err-version-clause-version
returns-in_err-version-clause-version g c =
    passed_on
    (λ e. HasCleanDisk (state g.S.Store c.known_version.new.conn) → (v : ℕ) → HasVersion v (state g.S.Store c.args.conn.now).committed
    → (e.at ≡ v) ⊎ (e.at ≡ 0))
    c.from_residual.result c.in_err-version.field-0.0 c.from_residual.ensures.1 c.in_err-version.ensures.fault
