use Rattle.upd_edit.proofs.Common.{Ok, Err, check_arrival, fails_owed, tried}
use Rattle.upd_desk.specs.Outcomes.{reply_on}
use Rattle.upd_edit.proofs.ToldLemmas.{told_of}
use Rattle.upd_edit.proofs.editing.try_at.Goals as goal

pub returns-in-Ok-clause-reply : goal.returns-in-Ok-clause-reply
returns-in-Ok-clause-reply g c =
    told_of g.S.Meaning (reply_on (tried c.args.mode.now c.args.run.now)) c.in_ok-library.library (Ok c.in-Ok.reply)
    c.args.desk.now.store c.library.new.self.store c.in_ok-library.ensures.library (λ made. c.in-Ok.ensures.reply made)

pub returns-clause-reply : goal.returns-clause-reply
returns-clause-reply g c =
    told_of g.S.Meaning (reply_on (tried c.args.mode.now c.args.run.now)) c.in_ok-library.library (Err c.in-Err.fault)
    c.args.desk.now.store c.library.new.self.store c.in_ok-library.ensures.library
    (λ made. fails_owed c.in-Err.fault (reply_on (tried c.args.mode.now c.args.run.now) c.in_ok-library.library) (c.in-Err.ensures.reply made))

pub returns-clause-refused : goal.returns-clause-refused
returns-clause-refused g c = fails_owed c.in-Err.fault (check_arrival (tried c.args.mode.now c.args.run.now)) c.in-Err.ensures.refused
