use Rattle.upd_wire.proofs.Common.{inl, refl, ap, ◌∙◌, Some, result_map_both, compile, page}
use Rattle.upd_compile.specs.File.{FileView}
use Rattle.upd_wire.proofs.AskLemmas.{answered_fault, answered_told, fails_alike, seen_err, seen_ok}
use Rattle.upd_wire.proofs.ask.full_compile.Goals as goal

pub returns-in-Ok : goal.returns-in-Ok
returns-in-Ok g c =
    let result = result_map_both (λ (file : FileView). file) (λ fault. fault) c.full_compile.result in
    let told = result_map_both (λ (file : FileView). page file.bytes) (λ fault. fault) result in (
      Some (compile, told),
      (
        result,
        c.full_compile.ensures.text,
        c.full_compile.ensures.leaves.same,
        fails_alike _ _ c.full_compile.result c.full_compile.ensures.leaves.failed,
        refl,
      ),
      inl (
        told,
        refl,
        answered_told (λ (file : FileView). page file.bytes) result c.in-Ok.text _ (seen_ok (λ
            (file : FileView). file) c.full_compile.result c.in-Ok.text c.in-Ok.is)
            (c.page.ensures ∙ ap page (ap (λ (file : FileView). file.bytes) c.text.view_is)),
      ),
    )

pub returns-in-Err : goal.returns-in-Err
returns-in-Err g c =
    let result = result_map_both (λ (file : FileView). file) (λ fault. fault) c.full_compile.result in
    let told = result_map_both (λ (file : FileView). page file.bytes) (λ fault. fault) result in (
      Some (compile, told),
      (
        result,
        c.full_compile.ensures.text,
        c.full_compile.ensures.leaves.same,
        fails_alike _ _ c.full_compile.result c.full_compile.ensures.leaves.failed,
        refl,
      ),
      inl (
        told,
        refl,
        answered_fault (λ (file : FileView). page file.bytes) result c.in-Err.fault c.fault.result (seen_err (λ
            (file : FileView). file) c.full_compile.result c.in-Err.fault c.in-Err.is)
            c.fault.ensures.ok c.fault.ensures.err,
      ),
    )
