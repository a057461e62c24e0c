use Rattle.upd_subcommands.proofs.Common.{◌∙◌, subst}
use Rattle.upd_wire.specs.Fronts.{AppendsFront}
use Rattle.upd_subcommands.proofs.listening.report_path.Goals as goal

pub returns-in-Ok : goal.returns-in-Ok
returns-in-Ok g c =
    subst (AppendsFront (g.E.Write.contents c.args.faults.now) (g.E.Write.contents c.write_out.new.output))
    (c.as_bytes.ensures.value ∙ c.in-Ok.ensures.ok) c.write_out.ensures.front
