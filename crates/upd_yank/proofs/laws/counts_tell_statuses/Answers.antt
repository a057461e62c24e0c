use Rattle.upd_yank.proofs.FlipLemmas.{status_is, same_active}
use Rattle.upd_yank.proofs.laws.counts_tell_statuses.Goals as goal

pub returns-clause-counts : goal.returns-clause-counts
returns-clause-counts c = status_is

pub returns-clause-kept : goal.returns-clause-kept
returns-clause-kept c = same_active
