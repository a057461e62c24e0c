-- A run that is refused gets the defined refusal.
use Rattle.upd_desk.proofs.Common.{◌≡◌, Result, Ok, Err, ap, sym, ◌∙◌, subst, Fault, ArrivalView, Compiled, compiled, outcome_by}
use Rattle.upd_desk.proofs.RefusedLemmas.{error_is, fails_is}
use Rattle.upd_desk.proofs.trying.reply_in.Goals as goal

pub returns-clause-reply : goal.returns-clause-reply
returns-clause-reply c = λ made.
    let mode = c.args.mode in
    let library = c.args.library.now in
    let arrival = c.args.arrival.now in
    let fault = c.in-Err.fault in
    let met = fails_is fault _ c.in_ok-refused-in-Err.ensures.refusal.kind c.in-Err.ensures.refused in
    let is = subst (λ (a : ArrivalView). compiled mode a.bytes library ≡ Err fault) c.arrival.view_is met in
    ap Ok (sym (c.in_ok-refused-in-Err.ensures.refusal.reply mode library c.requires.passed
    ∙ ap (λ (r : Result Compiled Fault). (outcome_by arrival library r).reply) (sym is)))

pub returns-in_err-refused-in-Err-clause-lost : goal.returns-in_err-refused-in-Err-clause-lost
returns-in_err-refused-in-Err-clause-lost c =
    rw (error_is _ _ c.from_residual.ensures.1)
    (ap (λ (f : Fault). f.kind) c.in_err-refused-in-Err.ensures.lost, ap (λ (f : Fault). f.at) c.in_err-refused-in-Err.ensures.lost)
