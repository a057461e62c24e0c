use Rattle.std.proofs.lemmas.Result.{IfOk-weaker}
use Rattle.upd_keep.proofs.replaying.replay_store.Goals as goal

pub returns-in-Ok : goal.returns-in-Ok
returns-in-Ok g c = (
  c.stored_tables.new.store,
  record {
    said = λ honest.
        IfOk-weaker c.replay_tables.result _ _ (λ said is rows shown. is rows (c.in-Ok.ensures.found honest rows shown)) c.replay_tables.ensures.said;
    keeps = c.in-Ok.ensures.keeps;
    lost = c.replay_tables.ensures.lost;
  },
)

pub returns-in-Err : goal.returns-in-Err
returns-in-Err g c = (c.stored_tables.new.store, record { said = λ honest. tt; keeps = c.in-Err.ensures.keeps; lost = c.in-Err.ensures.lost })
