use Rattle.std.proofs.lemmas.List.{take-replicate}
use Rattle.upd_compile.proofs.progress.blanks.Goals as goal

pub returns : goal.returns
returns c = take-replicate c.args.count 80 32 c.requires
