use Rattle.upd_keep.proofs.Common.{refl, rules, IsOkUnless, fault_at, NoMemory}
use Rattle.upd_keep.proofs.ReplayLemmas.{differs, memory_lost}
use Rattle.upd_keep.proofs.other_tables.other_table.Goals as goal

pub returns-in_err-found-clause-lost : goal.returns-in_err-found-clause-lost
returns-in_err-found-clause-lost c = let e : IsOkUnless c.from_residual-in_err-found.result (fault_at NoMemory 0) = search rules in memory_lost _ e

pub returns-clause-first : goal.returns-clause-first
returns-clause-first c = λ rows p q.
    let read = c.in_ok-rows.ensures in
    let same = read.leaves.same.same tt (read.leaves.opens tt) in
    differs rows c.args.made.tables c.args.library c.in_ok-rows.rows c.args.states c.in_ok-own_states.own_states _ p q
    (read.found tt c.args.made.tables refl) (c.in_ok-own_states.ensures.found tt c.args.made.tables same) c.in_ok-found.ensures
