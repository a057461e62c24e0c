use Rattle.upd_wire.proofs.Common.{None, Err, ℕ, List, refl, subst, asked, IsRead}
use Rattle.upd_wire.proofs.AnswerLemmas.{answers_refusal}
use Rattle.upd_wire.proofs.http_exchange.answer_request.Goals as goal

pub returns-in-Err : goal.returns-in-Err
returns-in-Err g c =
    let is_read : (input : List ℕ) → IsRead asked input c.args.request.now → IsRead asked input (Err c.in-Err.refusal) =
    λ input. subst (IsRead asked input) c.in-Err.is in
    (None, refl, tt, λ input says. answers_refusal input c.in-Err.refusal c.refusal.result (is_read input says) c.refusal.ensures.ok c.refusal.ensures.err)
