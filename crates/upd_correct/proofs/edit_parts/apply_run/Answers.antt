use Rattle.upd_correct.proofs.Common.{refl, Reached}
use Rattle.upd_correct.proofs.edit_parts.apply_run.Goals as goal

pub returns-in-Ok-apply : goal.returns-in-Ok-apply
returns-in-Ok-apply c =
    let reached : Reached = record {
      library = c.apply.new.library;
      idents = c.in-Ok-apply.field-0.idents.items;
      compile = c.in-Ok-apply.field-0.compile.items;
    } in
    (reached, rw c.in-Ok.ensures.reading c.in-Ok-apply.ensures.ok, refl)
