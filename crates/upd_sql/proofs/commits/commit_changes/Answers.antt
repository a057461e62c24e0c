use Rattle.upd_sql.proofs.Common.{◌≡◌, Ok, option_copied, true, map, refl, subst, rules, arith, state, HasCleanDisk, Survives, survives_begin, change_view}
use Rattle.upd_sql.proofs.Common.{done_all, with_run, Makes, makes_then, makes_as, MayCommit, AllCanBeDone, HoldsTables, AnyTables}
use Rattle.upd_row_store.specs.Tables.{committed}
use Rattle.upd_sql.proofs.CommitLemmas.{crash_leaves}
use Rattle.upd_sql.proofs.commits.commit_changes.Goals as goal

pub returns-clause-crash : goal.returns-clause-crash
returns-clause-crash g c =
    let old = state g.S.Store c.args.conn.now in
    let begun = record old { in_transaction = true } in
    let mid = state g.S.Store c.carry_out_moving.new.tx.conn.now in
    let last = state g.S.Store c.insert_run.new.tx.conn.now in
    let end = state g.S.Store c.commit.new.self.0 in
    let cs = map change_view c.args.changes.now in
    let Fits = AllCanBeDone (option_copied c.args.movable) cs in
    let made : Makes {X = Unit {0}} HoldsTables Fits (done_all cs) begun mid (Ok c.in_ok-carry_out_moving.field-0) =
    rw c.begin-tx.ensures.begun at c.in_ok-carry_out_moving.ensures.does in
    let whole : Makes {X = Unit {0}} HoldsTables Fits (committed cs c.args.row.now) begun last (Ok c.in_ok-insert_run.field-0) =
    makes_as HoldsTables _ Fits _ (committed cs c.args.row.now) begun last (Ok c.in_ok-insert_run.field-0) (λ it fits. (fits, tt)) (λ it. refl)
    (makes_then HoldsTables Fits AnyTables (done_all cs) (with_run c.args.row.now) begun mid last c.in_ok-carry_out_moving.field-0
    (Ok c.in_ok-insert_run.field-0) made c.in_ok-insert_run.ensures.makes.does) in
    let left = crash_leaves Fits (committed cs c.args.row.now) old last end c.in_ok-insert_run.field-0 c.begin-tx.ensures.rise
    c.begin-tx.ensures.settled whole
    (λ clean. let early : HasCleanDisk mid = omega (arith, c.insert_run.ensures.makes.does.steps.survives.clean) in (made.steps.kept early refl).was_open
    (c.in_ok-insert_run.ensures.was_open clean (made.steps.going early refl))) c.commit.ensures.survives in
    let P = MayCommit Fits (committed cs c.args.row.now) old in
    let same : c.commit.new.self.0 ≡ c.conn-2-1.given.0 = search rules in
    subst (λ h. Survives old (state g.S.Store h) P) same (survives_begin g.S.Store c.args.conn.now end P left)
