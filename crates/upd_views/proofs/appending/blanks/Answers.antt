use Rattle.std.proofs.lemmas.List.{take-replicate}
use Rattle.upd_views.proofs.appending.blanks.Goals as goal

pub returns : goal.returns
returns c = take-replicate c.args.count 18 32 c.requires
