use Rattle.upd_laws.proofs.Common.{◌+◌, length, arith, IfOk-at_ok}
use Rattle.upd_laws.proofs.BackLibraryLemmas.{Grows}
use Rattle.upd_laws.proofs.BackStepLemmas.{all_applied_grows}
use Rattle.upd_laws.proofs.BackAgainLemmas.{same_library}
use Rattle.upd_laws.proofs.purging_back.runs_without_idents_change_nothing.Goals as goal

pub returns : goal.returns
returns c runs before after lead same =
    let x = length before.idents + 1 in
    let g = IfOk-at_ok (Grows x before) lead.1 (all_applied_grows x runs before (omega arith) lead.0) in
    same_library x before after (omega arith) same g
