use Rattle.upd_keep.proofs.Common.{true, false, sym, ◌∙◌}
use Rattle.std.proofs.lemmas.Result.{IfErr-weaker}
use Rattle.sqlite_std_file.specs.File.{IsFresh}
use Rattle.sqlite_wal.specs.Files.{image_at}
use Rattle.upd_keep.proofs.Reports.{of_error, of_file, open_fails}
use Rattle.upd_keep.proofs.file_examination.examine.Goals as goal

pub returns-in-Ok-clause-said : goal.returns-in-Ok-clause-said
returns-in-Ok-clause-said g c = of_file _ (image_at g.St.Start) c.in-Ok.conn c.examine_opened.result c.in-Ok.ensures.found c.examine_opened.ensures.said

pub returns-clause-said : goal.returns-clause-said
returns-clause-said g c = of_error _ (image_at g.St.Start) c.in-Err.error c.unopened.result c.unopened.ensures.says

pub returns-clause-failed : goal.returns-clause-failed
returns-clause-failed g c =
    IfErr-weaker c.unopened.result _ _
    (λ fault told store. open_fails (IsFresh true) (IsFresh false) c.in-Err.error c.in-Err.field-0-1 c.in-Err.ensures.unopened c.in-Err.ensures.cause told.0
    (sym told.1 ∙ store)) c.unopened.ensures.failed
