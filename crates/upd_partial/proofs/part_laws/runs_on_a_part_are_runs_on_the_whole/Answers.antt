use Rattle.upd_partial.proofs.WholeLemmas.{on_whole}
use Rattle.upd_partial.proofs.part_laws.runs_on_a_part_are_runs_on_the_whole.Goals as goal

pub returns : goal.returns
returns c = on_whole
