use Rattle.upd_store.proofs.Common.{◌≡◌, ◌⊎◌, inl, inr, ◌∙◌, ℕ, Result, Ok, Err, IfOk, Error, state, HasVersion}
use Rattle.std.specs.Prelude.{MatchResult}
use Rattle.upd_store.proofs.sql_store.SqlStore.init.Goals as goal

named : (Has : ℕ → Type 0) (found : Result ℕ Error) (at : ℕ) → IfOk found (λ n. (v : ℕ) → Has v → n ≡ v)
    → MatchResult found (λ n. at ≡ n) (λ _. at ≡ 0)
    → (v : ℕ) → Has v → (at ≡ v) ⊎ (at ≡ 0)
named Has (Ok n) at value is v h = inl (is ∙ value v h)
named Has (Err e) at value is v h = inr is

pub returns-then-not-is_no_schema-clause-version : goal.returns-then-not-is_no_schema-clause-version
returns-then-not-is_no_schema-clause-version g c clean =
    named (λ v. HasVersion v (state g.S.Store c.args.conn).committed) c.version_of-found.result c.version_fault.result.at
    (c.version_of-found.ensures.value clean)
    c.version_fault.ensures.at
