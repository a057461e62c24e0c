use Rattle.upd_desk.proofs.LawLemmas.{mark_greatest, mark_settled_once}
use Rattle.upd_desk.proofs.desk_laws.marks_are_the_greatest_settled.Goals as goal

pub returns-clause-none_above : goal.returns-clause-none_above
returns-clause-none_above c = mark_greatest

pub returns-clause-settled : goal.returns-clause-settled
returns-clause-settled c = mark_settled_once
