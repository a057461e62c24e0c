use Rattle.std.proofs.lemmas.Result.{err_from_is_err_and}
use Rattle.upd_edit.proofs.ToldLemmas.{none_now}
use Rattle.upd_edit.proofs.editing.corrected_now.Goals as goal

pub returns-in_err-correct-clause-answer : goal.returns-in_err-correct-clause-answer
returns-in_err-correct-clause-answer c =
    let p = err_from_is_err_and c.from_residual.result c.from_residual.ensures.1 in
    rw (p.1, p.2) (none_now c.args.library.now c.args.set.now c.args.text.now c.in_err-correct.field-0.0 c.in_err-correct.ensures.refused)
