use Rattle.upd_partial.proofs.Common.{fit_row_changes, shown_by_row_changes, run_goes}
use Rattle.upd_partial.proofs.WholeLemmas.{on_whole}
use Rattle.upd_partial.proofs.part_laws.changes_of_a_part_lead_the_whole.Goals as goal

pub returns : goal.returns
returns c ages lines l here changes rows sound within plain none is row_changes shows =
    let whole = on_whole ages lines l here changes sound within plain none is row_changes in
    let goes = run_goes lines l whole.there whole.reached in (
      whole.there,
      whole.reached,
      fit_row_changes l whole.there.library changes sound goes whole.row_changes rows shows,
      shown_by_row_changes l whole.there.library changes sound goes whole.row_changes rows shows,
    )
