use Rattle.upd_keep.proofs.compacting.made_in.Goals as goal

pub returns-in-Err-clause-unopened : goal.returns-in-Err-clause-unopened
returns-in-Err-clause-unopened g c = c.of_memory.ensures c.in-Err.ensures.unopened
