use Rattle.upd_wire.proofs.Common.{inl, refl, Some, result_map_both, yanks, page}
use Rattle.upd_wire.proofs.AskLemmas.{answered_fault, answered_told, fails_alike, seen_err, seen_ok}
use Rattle.upd_wire.proofs.ask.yank_list.Goals as goal

pub returns-in-Ok : goal.returns-in-Ok
returns-in-Ok g c =
    let result = result_map_both (λ text. text.items) (λ fault. fault) c.yank_list.result in
    let told = result_map_both page (λ fault. fault) result in (
      Some (yanks, told),
      (result, c.yank_list.ensures.text, c.yank_list.ensures.leaves.same, fails_alike _ _ c.yank_list.result c.yank_list.ensures.leaves.failed, refl),
      inl (told, refl, answered_told page result c.in-Ok.text.items _ (seen_ok (λ text. text.items) c.yank_list.result c.in-Ok.text c.in-Ok.is) c.page.ensures),
    )

pub returns-in-Err : goal.returns-in-Err
returns-in-Err g c =
    let result = result_map_both (λ text. text.items) (λ fault. fault) c.yank_list.result in
    let told = result_map_both page (λ fault. fault) result in (
      Some (yanks, told),
      (result, c.yank_list.ensures.text, c.yank_list.ensures.leaves.same, fails_alike _ _ c.yank_list.result c.yank_list.ensures.leaves.failed, refl),
      inl (
        told,
        refl,
        answered_fault page result c.in-Err.fault c.fault.result (seen_err (λ text. text.items) c.yank_list.result c.in-Err.fault c.in-Err.is)
            c.fault.ensures.ok c.fault.ensures.err,
      ),
    )
