use Rattle.std.proofs.lemmas.Result.{err_from_is_err_and}
use Rattle.upd_edit.proofs.ToldLemmas.{edit_lost}
use Rattle.upd_edit.proofs.editing.parts_at.Goals as goal

pub returns-in_err-correct_parts-clause-lost : goal.returns-in_err-correct_parts-clause-lost
returns-in_err-correct_parts-clause-lost g c =
    let p = err_from_is_err_and c.from_residual-in_err-correct_parts.result c.from_residual-in_err-correct_parts.ensures.1 in
    rw (p.1, p.2) (edit_lost c.args.text.now c.in_err-correct_parts.field-0.0)
