use Rattle.upd_sql.proofs.Common.{EntryRow, ◌==◌, eq_nat, filter, one_test, refl, state}
use Rattle.upd_sql.proofs.ReadTexts.{entries_at, entries_at_tests}
use Rattle.upd_sql.proofs.WholeLemmas.{entries_listed}
use Rattle.upd_sql.specs.declared.texts.TheConstants as sql
use Rattle.upd_sql.proofs.whole.entries_at.Goals as goal

pub returns : goal.returns
returns g c =
    let test = λ (e : EntryRow). e.ord == c.args.ord in
    let listed = rw c.number.ensures at c.all_of.ensures in
    listed (λ it. filter test it.entries) entries_at.plain
    (λ it h rows. entries_listed (state g.S.Store c.args.tx.now.conn.now) (state g.S.Store c.all_of.new.tx.conn.now) it h rows c.args.ord
    sql.ENTRIES_AT.now entries_at_tests test entries_at refl (λ e. one_test (eq_nat e.ord c.args.ord)))
