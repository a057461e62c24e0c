use Rattle.upd_migrate.proofs.Common.{◌≡◌, ◌⊎◌, ℕ, sym, ap, ◌∙◌, state, Database, HasCleanDisk, clean_before, HasVersion}
use Rattle.upd_migrate.proofs.Migrates.{any_leaves, migrates_any}
use Rattle.upd_migrate.proofs.PassedFaults.{passed_on}
use Rattle.upd_migrate.proofs.migrating.migrate.Goals as goal

pub returns-in-Ok-clause-done : goal.returns-in-Ok-clause-done
returns-in-Ok-clause-done g c clean o =
    let old = state g.S.Store c.args.conn.now in
    let mid = state g.S.Store c.known_version.new.conn in
    let new = state g.S.Store c.migrate_from.new.conn in
    let done = c.in-Ok.ensures.done clean in
    migrates_any c.in_ok-version.version old mid c.in_ok-version.ensures.found c.in_ok-version.ensures.same new
    (clean_before mid new _ c.in-Ok.ensures.crash clean) done.1 done.2

pub returns-in-Ok-clause-crash : goal.returns-in-Ok-clause-crash
returns-in-Ok-clause-crash g c =
    let known = c.in_ok-version.ensures in
    any_leaves c.in_ok-version.version (state g.S.Store c.args.conn.now) (state g.S.Store c.known_version.new.conn) known.found known.same
    (state g.S.Store c.migrate_from.new.conn) known.was_open known.value known.survives c.in-Ok.ensures.crash

pub returns-in-Err-clause-crash : goal.returns-in-Err-clause-crash
returns-in-Err-clause-crash g c =
    let known = c.in_ok-version.ensures in
    any_leaves c.in_ok-version.version (state g.S.Store c.args.conn.now) (state g.S.Store c.known_version.new.conn) known.found known.same
    (state g.S.Store c.migrate_from.new.conn) known.was_open known.value known.survives c.in-Err.ensures.crash

pub returns-in-Ok-clause-known : goal.returns-in-Ok-clause-known
returns-in-Ok-clause-known g c clean o =
    let mid = state g.S.Store c.known_version.new.conn in
    let new = state g.S.Store c.migrate_from.new.conn in
    let early = clean_before mid new _ c.in-Ok.ensures.crash clean in
    let was_open = (c.in-Ok.ensures.done clean).1 in
    let schema = ap (λ (d : Database). d.schema) (sym (c.in_ok-version.ensures.same early was_open)) ∙ c.in_ok-version.ensures.found was_open in
    (c.in_ok-version.version, schema, c.in_ok-version.ensures.value early)

pub returns-then-matches-clause-known : goal.returns-then-matches-clause-known
returns-then-matches-clause-known g c clean o =
    let schema = ap (λ (d : Database). d.schema) (sym (c.in_ok-version.ensures.same clean o)) ∙ c.in_ok-version.ensures.found o in
    (c.in_ok-version.version, schema, c.in_ok-version.ensures.value clean)

pub returns-in_err-version-clause-version : goal.returns-in_err-version-clause-version
returns-in_err-version-clause-version g c =
    passed_on
    (λ e. HasCleanDisk (state g.S.Store c.known_version.new.conn) → (v : ℕ) → HasVersion v (state g.S.Store c.args.conn.now).committed
    → (e.at ≡ v) ⊎ (e.at ≡ 0))
    c.from_residual.result c.in_err-version.field-0.0 c.from_residual.ensures.1 c.in_err-version.ensures.fault
