use Rattle.upd_wire.proofs.Common.{inl, refl, Some, result_map_both, run, reply_response}
use Rattle.upd_wire.proofs.AskLemmas.{answered_fault, answered_told}
use Rattle.upd_wire.proofs.ask.arrive.Goals as goal

pub returns-in-Ok : goal.returns-in-Ok
returns-in-Ok g c =
    let told = result_map_both reply_response (λ fault. fault) c.arrive.result in (
      Some (run c.args.site.now c.args.number c.args.mode.now c.args.body.now, told),
      (c.arrive.result, c.arrive.ensures.arrives, c.arrive.ensures.failed, refl),
      inl (told, refl, answered_told reply_response c.arrive.result c.in-Ok.reply _ c.in-Ok.is c.reply.ensures),
    )

pub returns-in-Err : goal.returns-in-Err
returns-in-Err g c =
    let told = result_map_both reply_response (λ fault. fault) c.arrive.result in (
      Some (run c.args.site.now c.args.number c.args.mode.now c.args.body.now, told),
      (c.arrive.result, c.arrive.ensures.arrives, c.arrive.ensures.failed, refl),
      inl (told, refl, answered_fault reply_response c.arrive.result c.in-Err.fault c.fault.result c.in-Err.is c.fault.ensures.ok c.fault.ensures.err),
    )
