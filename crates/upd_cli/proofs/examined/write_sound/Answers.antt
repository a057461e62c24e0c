use Rattle.std.proofs.Common.{Ok, Err, ◌++◌, refl, ap, subst, append-nil}
use Rattle.std.proofs.KnownBytes.{Appends-nil}
use Rattle.std.specs.Io.KnownBytes.{Appends}
use Rattle.upd_wire.specs.Fronts.{AppendsFront}
use Rattle.upd_cli.proofs.examined.write_sound.Goals as goal

pub returns-in-Ok-clause-reported : goal.returns-in-Ok-clause-reported
returns-in-Ok-clause-reported g c = (
  Ok 0,
  (
    refl,
    subst (Appends (g.W.Write.contents c.args.output.now) (g.W.Write.contents c.write_parts_out.new.output))
        (ap (λ l. c.args.first.now ++ l) (append-nil c.args.line.now)) c.in-Ok.ensures.ok,
  ),
  (refl, Appends-nil (g.E.Write.contents c.args.faults.now)),
)

pub returns-in-Err-clause-reported : goal.returns-in-Err-clause-reported
returns-in-Err-clause-reported g c = (
  Err c.in-Err.fault,
  (
    c.in-Err.ensures.err,
    subst (AppendsFront (g.W.Write.contents c.args.output.now) (g.W.Write.contents c.write_parts_out.new.output))
        (ap (λ l. c.args.first.now ++ l) (append-nil c.args.line.now)) c.in-Err.ensures.front,
  ),
  c.finish.ensures.reported,
)
