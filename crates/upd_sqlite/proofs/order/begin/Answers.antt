use Rattle.std.proofs.Common.{IsTrue, not, ap, sym, subst, ◌∙◌}
use Rattle.sqlite.specs.Held.{state}
use Rattle.upd_sqlite.specs.Rising.{TablesRise}
use Rattle.upd_sqlite.proofs.OrderedTables.{tables_rise}
use Rattle.upd_sqlite.proofs.order.begin.Goals as goal

pub returns-clause-rise : goal.returns-clause-rise
returns-clause-rise g c is_open =
    let s = state g.S.Store c.args.conn.now in
    let outside : IsTrue c.is_autocommit-outside.result = c.is_autocommit-outside.ensures.value ∙ ap not c.requires in
    let rises = g.met.S.Rising.rises c.args.conn.now.store is_open in
    subst TablesRise (sym (c.is_autocommit-outside.ensures.settled outside is_open))
    (tables_rise s.committed.trees _ _ s.committed.schema rises.listed rises.ordered (c.schema-live.ensures.live is_open).1.lists.listed)
