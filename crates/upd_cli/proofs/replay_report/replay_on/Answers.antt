use Rattle.std.proofs.Common.{Err}
use Rattle.std.proofs.KnownBytes.{Appends-nil}
use Rattle.upd_cli.proofs.replay_report.replay_on.Goals as goal

pub returns-in-Err-clause-reported : goal.returns-in-Err-clause-reported
returns-in-Err-clause-reported g c =
    (Err c.in-Err.fault, c.in-Err.ensures.replays, (Appends-nil (g.W.Write.contents c.args.output.now), c.finish.ensures.reported))
