use Rattle.upd_edit.proofs.Common.{Err, fails_owed}
use Rattle.upd_edit.specs.Warnings.{conflicts}
use Rattle.upd_edit.proofs.ToldLemmas.{told_of}
use Rattle.upd_edit.proofs.ConditionLemmas.{look_fault}
use Rattle.upd_edit.proofs.condition.conflicts_now.Goals as goal

pub returns-in-Ok-clause-list : goal.returns-in-Ok-clause-list
returns-in-Ok-clause-list g c =
    told_of g.S.Meaning (conflicts c.args.since.now c.args.run.now) c.in-Ok.library (Err c.in-Err-conflicts.fault)
    c.args.desk.now.store c.library.new.self.store c.in-Ok.ensures.library
    (λ made. fails_owed c.in-Err-conflicts.fault (conflicts c.args.since.now c.args.run.now c.in-Ok.library) c.in-Err-conflicts.ensures)

pub returns-in-Ok-clause-faults : goal.returns-in-Ok-clause-faults
returns-in-Ok-clause-faults g c =
    look_fault c.args.since.now c.args.run.now c.in-Ok.library c.in-Err-conflicts.fault c.in-Err-conflicts.ensures
