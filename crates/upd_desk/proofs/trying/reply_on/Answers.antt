-- A run that passed the admission checks fails only where memory runs out.
use Rattle.upd_desk.proofs.Common.{check_arrival}
use Rattle.upd_desk.proofs.RefusedLemmas.{fails_memory}
use Rattle.upd_desk.proofs.trying.reply_on.Goals as goal

pub returns-clause-refused : goal.returns-clause-refused
returns-clause-refused c = fails_memory c.reply_in.result (check_arrival c.args.arrival.now) c.reply_in.ensures.lost
