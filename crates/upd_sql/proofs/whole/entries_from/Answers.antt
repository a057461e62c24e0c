use Rattle.upd_sql.proofs.Common.{EntryRow, nat_le, filter, one_test, refl, state}
use Rattle.upd_sqlite.proofs.Tests.{ge_nat}
use Rattle.upd_sql.proofs.ReadTexts.{entries_from, entries_from_tests}
use Rattle.upd_sql.proofs.WholeLemmas.{entries_listed}
use Rattle.upd_sql.specs.declared.texts.TheConstants as sql
use Rattle.upd_sql.proofs.whole.entries_from.Goals as goal

pub returns : goal.returns
returns g c =
    let test = λ (e : EntryRow). nat_le c.args.ord e.ord in
    let listed = rw c.number.ensures at c.all_of.ensures in
    listed (λ it. filter test it.entries) entries_from.plain
    (λ it h rows. entries_listed (state g.S.Store c.args.tx.now.conn.now) (state g.S.Store c.all_of.new.tx.conn.now) it h rows c.args.ord
    sql.ENTRIES_FROM.now entries_from_tests test entries_from refl (λ e. one_test (ge_nat e.ord c.args.ord)))
