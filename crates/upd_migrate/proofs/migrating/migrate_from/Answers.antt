use Rattle.upd_migrate.proofs.Common.{◌≡◌, OnOk, IsTrue, not, ap, sym, subst, ◌∙◌, rules, state, HasCleanDisk, Survives, clean_before, MayMigrateFrom}
use Rattle.upd_migrate.proofs.Common.{MigratesFrom}
use Rattle.sqlite.proofs.Callers.{survives_begin}
use Rattle.upd_migrate.proofs.Migrates.{committed_whole, migration_leaves, on_ok}
use Rattle.upd_migrate.proofs.migrating.migrate_from.Goals as goal

pub returns-clause-done : goal.returns-clause-done
returns-clause-done g c clean =
    let old = state g.S.Store c.args.conn.now in
    let last = state g.S.Store c.fill.new.tx.conn.now in
    let end = state g.S.Store c.commit.new.self.0 in
    let begun = c.begin-tx.ensures.begun in
    let same : c.commit.new.self.0 ≡ c.conn-2-1.given.0 = search rules in
    let clean_end = subst (λ h. HasCleanDisk (state g.S.Store h)) (sym same) clean in
    let early = clean_before last end _ c.commit.ensures.survives clean_end in
    let v = c.args.version in
    subst (λ h. OnOk c.commit.result (IsTrue (state g.S.Store h).is_open × IsTrue old.is_open × MigratesFrom v old (state g.S.Store h))) same
    (on_ok c.commit.result (c.commit.ensures.ok clean_end)
    (λ ended. committed_whole v old last end c.in_ok-fill.field-0 c.begin-tx.ensures.rise c.begin-tx.ensures.settled
    (rw begun at c.in_ok-fill.ensures.steps) (λ l rows lib. rw begun at c.in_ok-fill.ensures.transforms l rows lib) early ended.1))

pub returns-clause-crash : goal.returns-clause-crash
returns-clause-crash g c =
    let old = state g.S.Store c.args.conn.now in
    let last = state g.S.Store c.fill.new.tx.conn.now in
    let end = state g.S.Store c.commit.new.self.0 in
    let begun = c.begin-tx.ensures.begun in
    let v = c.args.version in
    let left = migration_leaves v old last end c.in_ok-fill.field-0 c.begin-tx.ensures.rise c.begin-tx.ensures.settled
    (rw begun at c.in_ok-fill.ensures.steps) (λ l rows lib. rw begun at c.in_ok-fill.ensures.transforms l rows lib) (rw begun at c.in_ok-fill.ensures.was_open)
    c.commit.ensures.survives in
    let same : c.commit.new.self.0 ≡ c.conn-2-1.given.0 = search rules in
    subst (λ h. Survives old (state g.S.Store h) (MayMigrateFrom v old)) same
    (survives_begin g.S.Store c.args.conn.now end (MayMigrateFrom v old) left)
