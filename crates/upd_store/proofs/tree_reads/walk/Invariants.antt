use Rattle.upd_store.proofs.TreeWalk.{Walks}
use Rattle.upd_store.proofs.tree_reads.walk.Given as goal

abbrev pub invariant-rows : goal.invariant-rows
invariant-rows g l = Walks g.S.Store l.fn.store l.store g.T.Record.TREE g.T.Record.stored l.found.items
