use Rattle.upd_sql.proofs.Common.{◌≡◌, subst, rules, state, Survives, survives_begin, MayMake}
use Rattle.upd_sql.proofs.CommitLemmas.{making_leaves}
use Rattle.upd_sql.proofs.make.make_library.Goals as goal

pub returns-clause-crash : goal.returns-clause-crash
returns-clause-crash g c =
    let old = state g.S.Store c.args.conn.now in
    let last = state g.S.Store c.make_tables.new.tx.conn.now in
    let end = state g.S.Store c.commit.new.self.0 in
    let begun = c.begin-tx.ensures.begun in
    let left = making_leaves old last end c.in_ok-make_tables.field-0 c.begin-tx.ensures.settled (rw begun at c.in_ok-make_tables.ensures.transforms.does)
    (rw begun at c.in_ok-make_tables.ensures.was_open) c.commit.ensures.survives in
    let same : c.commit.new.self.0 ≡ c.conn-2-1.given.0 = search rules in
    subst (λ h. Survives old (state g.S.Store h) (MayMake old)) same (survives_begin g.S.Store c.args.conn.now end (MayMake old) left)
