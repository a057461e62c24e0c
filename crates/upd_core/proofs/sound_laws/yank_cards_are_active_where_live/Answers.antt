use Rattle.upd_core.proofs.YankLemmas.{active_where_good, live_where_active, live_status}
use Rattle.upd_core.proofs.sound_laws.yank_cards_are_active_where_live.Goals as goal

pub returns-clause-good : goal.returns-clause-good
returns-clause-good c = active_where_good

pub returns-clause-flags : goal.returns-clause-flags
returns-clause-flags c = live_where_active

pub returns-clause-status : goal.returns-clause-status
returns-clause-status c = live_status
