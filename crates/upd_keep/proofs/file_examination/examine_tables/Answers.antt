use Rattle.upd_keep.proofs.Common.{refl, state, OfMemory, OfStore, survives_itself}
use Rattle.upd_keep.proofs.file_examination.examine_tables.Goals as goal

pub returns-then-not-is_autocommit-clause-examines : goal.returns-then-not-is_autocommit-clause-examines
returns-then-not-is_autocommit-clause-examines g c = record {
  one = λ clean. tt;
  found = λ clean. tt;
  reads = record {
    was_open = λ clean is_open. is_open;
    same = λ clean is_open ours. refl;
    crash = survives_itself (state g.S.Store c.args.conn.now) _;
  };
  lost = OfStore _ c.store_at.ensures.kind c.store_at.ensures.at;
}

pub returns-in-Ok-clause-examines : goal.returns-in-Ok-clause-examines
returns-in-Ok-clause-examines g c = record {
  one = λ clean. tt;
  found = λ clean. tt;
  reads = c.in-Ok.ensures.reads;
  lost = OfMemory _ c.no_memory.ensures.kind c.no_memory.ensures.at;
}
