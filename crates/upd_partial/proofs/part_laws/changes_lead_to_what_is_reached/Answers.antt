use Rattle.upd_partial.proofs.Common.{fit_row_changes, shown_by_row_changes, taken_by_row_changes, run_goes, run_sound}
use Rattle.upd_partial.proofs.part_laws.changes_lead_to_what_is_reached.Goals as goal

pub returns-clause-shows : goal.returns-clause-shows
returns-clause-shows c lines l reached changes rows sound is row_changes shows =
    shown_by_row_changes l reached.library changes sound (run_goes lines l reached is) row_changes rows shows

pub returns-clause-fits : goal.returns-clause-fits
returns-clause-fits c lines l reached changes rows sound is row_changes shows =
    fit_row_changes l reached.library changes sound (run_goes lines l reached is) row_changes rows shows

pub returns-clause-states : goal.returns-clause-states
returns-clause-states c lines l reached changes sound is row_changes =
    taken_by_row_changes l reached.library changes sound (run_sound lines l reached sound is) (run_goes lines l reached is) row_changes
