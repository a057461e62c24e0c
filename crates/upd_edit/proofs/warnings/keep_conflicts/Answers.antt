use Rattle.upd_edit.proofs.Common.{Bool, rules}
use Rattle.upd_core.proofs.Common.{filter_same}
use Rattle.upd_edit.specs.Found.{is_conflict}
use Rattle.upd_edit.specs.declared.warning.Warning.{Warning}
use Rattle.upd_edit.proofs.warnings.keep_conflicts.Goals as goal

pub returns : goal.returns
returns c =
    let stays : Warning → Bool = λ w. is_conflict w.kind in
    filter_same _ stays _ (λ x b f k. search rules) _ _ c.retain.ensures.filtered
