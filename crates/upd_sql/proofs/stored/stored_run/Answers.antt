use Rattle.upd_sql.proofs.Common.{◌≡◌, subst, rules, state, Survives, survives_begin, MayKeep}
use Rattle.upd_sql.proofs.CommitLemmas.{read_leaves}
use Rattle.upd_sql.proofs.stored.stored_run.Goals as goal

pub returns-in_err-commit : goal.returns-in_err-commit
returns-in_err-commit g c =
    let old = state g.S.Store c.args.conn.now in
    let last = state g.S.Store c.run_in.new.tx.conn.now in
    let end = state g.S.Store c.commit.new.self.0 in
    let begun = c.begin-tx.ensures.begun in
    let looks = rw begun at c.in_ok-run.ensures.does in
    let left = read_leaves old last end c.in_ok-run.run' c.begin-tx.ensures.settled looks.steps looks.was_open looks.same c.commit.ensures.survives in
    let same : c.commit.new.self.0 ≡ c.conn-2-1.given.0 = search rules in
    let crash = subst (λ h. Survives old (state g.S.Store h) (MayKeep old)) same (survives_begin g.S.Store c.args.conn.now end (MayKeep old) left) in
    record { outside = search rules; was_open = search rules; opens = search rules; kept = search rules; crash = crash; found = search rules }
