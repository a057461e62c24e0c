use Rattle.upd_memory.proofs.Common.{◌≡◌, nat_le, false, sym, arith, nat_tests}
use Rattle.upd_row_store.specs.Tables.{mark_at}
use Rattle.upd_row_store.proofs.TableLemmas.{settled_mark}
use Rattle.upd_memory.proofs.list_tables.ListTables.settle.Goals as goal

pub returns-clause-mark : goal.returns-clause-mark
returns-clause-mark c =
    let mark = c.mark_of-mark.ensures in
    let above : nat_le c.args.number (mark_at c.args.site.now c.args.self.now) ≡ false = grind (arith, nat_tests) in
    sym (settled_mark c.args.site.now c.args.number c.args.self.now above)
