use Rattle.std.proofs.lemmas.Result.{err_from_is_err_and}
use Rattle.upd_edit.proofs.Common.{rules, fails_owed}
use Rattle.upd_edit.specs.Earlier.{as_of}
use Rattle.upd_edit.proofs.ToldLemmas.{base_failed, none_since}
use Rattle.upd_edit.proofs.editing.corrected_since.Goals as goal

pub returns-in_err-taken-clause-answer : goal.returns-in_err-taken-clause-answer
returns-in_err-taken-clause-answer c =
    let p = err_from_is_err_and c.from_residual.result c.from_residual.ensures.1 in
    rw (p.1, p.2) (base_failed c.args.since.now c.args.library.now c.in_err-taken.field-0.0
    (fails_owed c.in_err-taken.field-0.0 (as_of c.args.since.now c.args.library.now) c.in_err-taken.ensures.library))

pub returns-in_err-correct_since-clause-answer : goal.returns-in_err-correct_since-clause-answer
returns-in_err-correct_since-clause-answer c =
    let p = err_from_is_err_and c.from_residual-in_err-correct_since.result c.from_residual-in_err-correct_since.ensures.1 in
    rw (p.1, p.2) (none_since c.args.since.now c.args.library.now c.in_ok-taken.taken c.unwrap_or-last.result c.args.set.now c.args.text.now
    c.in_err-correct_since.field-0.0 c.in_ok-taken.ensures.library (search rules) c.in_err-correct_since.ensures.refused)
