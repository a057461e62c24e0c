use Rattle.upd_laws.proofs.Common.{List, arith, IfOk-at_ok, next_age, purged_back, LibraryView, IsSound, LineView, IsAgain}
use Rattle.upd_laws.specs.PurgingBack.{LeadWithoutPurge}
use Rattle.upd_laws.proofs.BackLibraryLemmas.{Grows}
use Rattle.upd_laws.proofs.BackOldLemmas.{old_library}
use Rattle.upd_laws.proofs.BackStepLemmas.{all_applied_grows}
use Rattle.upd_laws.proofs.BackAgainLemmas.{again, status_again}
use Rattle.upd_laws.proofs.purging_back.purging_back_undoes_runs.Goals as goal

led : (runs : List (List LineView)) (before after : LibraryView) → IsSound before → LeadWithoutPurge runs before after
    → IsAgain before (purged_back (next_age before) after)
led runs before after sound lead =
    let x = next_age before in
    again before after (old_library before sound) (IfOk-at_ok (Grows x before) lead.1 (all_applied_grows x runs before (omega arith) lead.0))

pub returns-clause-again : goal.returns-clause-again
returns-clause-again c runs before after sound lead = led runs before after sound lead

pub returns-clause-statuses : goal.returns-clause-statuses
returns-clause-statuses c runs before after sound lead card =
    status_again before (purged_back (next_age before) after) (led runs before after sound lead) card
