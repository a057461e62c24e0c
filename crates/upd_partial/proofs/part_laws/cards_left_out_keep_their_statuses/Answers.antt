use Rattle.upd_partial.proofs.LeftLemmas.{left_status, no_yank_named, yanks_kept}
use Rattle.upd_partial.proofs.part_laws.cards_left_out_keep_their_statuses.Goals as goal

pub returns-clause-named : goal.returns-clause-named
returns-clause-named c = no_yank_named

pub returns-clause-yanks : goal.returns-clause-yanks
returns-clause-yanks c = yanks_kept

pub returns-clause-statuses : goal.returns-clause-statuses
returns-clause-statuses c out lines l reached sound does none is =
    left_status out lines l reached sound does is (yanks_kept lines l reached sound does.plain none is)
