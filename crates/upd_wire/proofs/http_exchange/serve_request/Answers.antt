use Rattle.upd_wire.proofs.Common.{None, Result, Err, inl, refl, sym, ap, subst, Appends-nil, Fault, ExchangeView, Response, Sends}
use Rattle.upd_wire.proofs.AnswerLemmas.{nothing_exchanged}
use Rattle.upd_wire.proofs.InputLemmas.{some_input}
use Rattle.upd_wire.proofs.http_exchange.serve_request.Goals as goal

pub returns-in-Err : goal.returns-in-Err
returns-in-Err g c =
    let (input, is) = some_input (g.R.Read.remaining c.args.reader.now) in
    let writer = g.W.Write.contents c.args.writer.now in
    let IsSent : Result Response Fault → Type 0 = λ answer. Sends {U = Unit {0}} answer (Err c.from-fault.result) writer writer in (
      None,
      input,
      refl,
      is,
      nothing_exchanged input _ (inl c.from-fault.ensures) _ c.failed.ensures,
      subst IsSent (sym (ap (λ (e : ExchangeView). e.answer) c.failed.ensures)) (refl, Appends-nil writer),
    )
