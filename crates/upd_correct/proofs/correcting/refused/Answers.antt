use Rattle.upd_correct.specs.Causes.{OfRun}
use Rattle.upd_correct.proofs.correcting.refused.Goals as goal

pub returns-clause-refused : goal.returns-clause-refused
returns-clause-refused c text set taken l clean is = OfRun c.args.problem c.args.run.now clean c.in_ok-refusal_at_0.ensures is
