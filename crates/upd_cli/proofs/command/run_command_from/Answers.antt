use Rattle.std.proofs.Common.{inl, inr, refl}
use Rattle.upd_cli.proofs.command.run_command_from.Goals as goal

pub returns-in-Ok : goal.returns-in-Ok
returns-in-Ok g c = inl (
  c.in-Ok.request,
  c.in-Ok.ensures.ok,
  c.carry_out.ensures.done,
  record {
    front = c.carry_out.ensures.front;
    waits = c.carry_out.ensures.waits;
    silent = c.carry_out.ensures.silent;
    clean = c.carry_out.ensures.clean;
  },
)

pub returns-in-Err : goal.returns-in-Err
returns-in-Err g c = inr (c.in-Err.fault, c.in-Err.ensures.err, c.finish.ensures.reported, refl, refl)
