use Rattle.upd_partial.proofs.PartStatusLemmas.{status_in_part}
use Rattle.upd_partial.proofs.partial_updates.statuses_of_a_part_are_those_of_the_whole.Goals as goal

pub returns : goal.returns
returns c = status_in_part
