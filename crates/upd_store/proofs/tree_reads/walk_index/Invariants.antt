use Rattle.upd_store.proofs.TreeWalk.{Looks}
use Rattle.upd_store.proofs.tree_reads.walk_index.Given as goal

abbrev pub invariant-entries : goal.invariant-entries
invariant-entries g l = Looks g.S.Store l.fn.store l.store
