use Rattle.upd_desk.proofs.Common.{ap, made_by}
use Rattle.upd_desk.proofs.AlikeLemmas.{holds_alike}
use Rattle.upd_desk.proofs.LawLemmas.{alike_later, answer_alike, kept_alike}
use Rattle.upd_desk.proofs.desk_laws.alike_journals_owe_the_same.Goals as goal

pub returns-clause-library : goal.returns-clause-library
returns-clause-library c = λ a b same. ap made_by same.runs

pub returns-clause-kept : goal.returns-clause-kept
returns-clause-kept c = λ a b same. kept_alike a b same

pub returns-clause-tables : goal.returns-clause-tables
returns-clause-tables c = λ a b same rows. holds_alike a b rows same

pub returns-clause-answers : goal.returns-clause-answers
returns-clause-answers c = λ a b same x. answer_alike a b x same

pub returns-clause-later : goal.returns-clause-later
returns-clause-later c = alike_later
