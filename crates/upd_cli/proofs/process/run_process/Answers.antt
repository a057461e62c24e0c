use Rattle.std.proofs.Common.{inr, refl}
use Rattle.std.specs.IoError.{error_kind}
use Rattle.upd_cli.proofs.process.run_process.Goals as goal

pub returns-in-Err : goal.returns-in-Err
returns-in-Err g c =
    rw c.exit_code.ensures (inr (error_kind c.in-Err.error, c.report_words.ensures.memory, c.report_words.ensures.other, refl, refl))
