use Rattle.upd_laws.proofs.Common.{suc, length, arith, IfOk-at_ok}
use Rattle.upd_laws.proofs.BackLibraryLemmas.{Grows}
use Rattle.upd_laws.proofs.BackStepLemmas.{all_applied_grows}
use Rattle.upd_laws.proofs.purging_back.runs_only_add.Goals as goal

pub returns : goal.returns
returns c runs before after lead =
    let x = suc (length before.idents) in
    let g : Grows x before after = IfOk-at_ok (Grows x before) lead.1 (all_applied_grows x runs before (omega arith) lead.0) in
    record { brought = g.brought; idents = g.idents; ages = g.ages; decks = g.decks; yanks = g.yanks; rest = g.rest }
