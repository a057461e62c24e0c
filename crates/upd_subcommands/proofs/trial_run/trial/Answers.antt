use Rattle.upd_subcommands.proofs.Common.{rules}
use Rattle.upd_subcommands.proofs.trial_run.trial.Goals as goal

pub returns : goal.returns
returns c = search rules
