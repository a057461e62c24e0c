use Rattle.upd_partial.proofs.WholeLemmas.{row_changes_whole, touched_whole}
use Rattle.upd_partial.proofs.part_laws.changes_of_a_part_are_changes_of_the_whole.Goals as goal

pub returns-clause-row_changes : goal.returns-clause-row_changes
returns-clause-row_changes c = row_changes_whole

pub returns-clause-touched : goal.returns-clause-touched
returns-clause-touched c = touched_whole
