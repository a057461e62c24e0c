use Rattle.upd_views.proofs.ExplainLemmas.{is_explained, only}
use Rattle.upd_views.proofs.fault_texts.each_fault_has_one_text.Goals as goal

pub returns-clause-named : goal.returns-clause-named
returns-clause-named c kind = (is_explained kind).0

pub returns-clause-numbered : goal.returns-clause-numbered
returns-clause-numbered c kind = (is_explained kind).1

pub returns-clause-own : goal.returns-clause-own
returns-clause-own c kind = (is_explained kind).2

pub returns-clause-lines : goal.returns-clause-lines
returns-clause-lines c kind = (is_explained kind).3

pub returns-clause-only : goal.returns-clause-only
returns-clause-only c word is = only word is
