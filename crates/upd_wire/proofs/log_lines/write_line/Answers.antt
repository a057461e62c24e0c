use Rattle.upd_wire.proofs.Common.{arith, common_steps, served_view}
use Rattle.upd_wire.specs.LogLines.{log_line}
use Rattle.upd_wire.proofs.FrontLemmas.{front_same}
use Rattle.upd_wire.proofs.log_lines.write_line.Goals as goal

pub returns-in-Some-clause-front : goal.returns-in-Some-clause-front
returns-in-Some-clause-front g c =
    front_same _ _ _ (log_line (served_view c.args.served.now)) (grind (arith, common_steps)) c.write_parts.ensures.front
