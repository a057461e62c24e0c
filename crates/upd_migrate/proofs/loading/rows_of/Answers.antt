use Rattle.upd_migrate.proofs.Common.{◌≡◌, IsTrue, not, ap, sym, subst, ◌∙◌, rules, state, HasCleanDisk, clean_before}
use Rattle.upd_migrate.proofs.Loaded.{read_rows}
use Rattle.upd_migrate.proofs.loading.rows_of.Goals as goal

pub returns-clause-found : goal.returns-clause-found
returns-clause-found g c clean it shown =
    let old = state g.S.Store c.args.conn.now in
    let mid = state g.S.Store c.complete.new.tx.conn.now in
    let last = state g.S.Store c.library_rows_in.new.tx.conn.now in
    let end = state g.S.Store c.rollback.new.self.0 in
    let begun = c.begin-tx.ensures.begun in
    let same : c.rollback.new.self.0 ≡ c.conn-2-1.given.0 = search rules in
    let early = clean_before last end _ c.rollback.ensures.survives (subst (λ h. HasCleanDisk (state g.S.Store h)) (sym same) clean) in
    read_rows c.args.version it old mid last c.in_ok-complete.field-0 c.in_ok-found.found c.begin-tx.ensures.rise
    c.begin-tx.ensures.settled (rw begun at c.in_ok-complete.ensures.transforms it) c.in_ok-found.ensures.does early shown
