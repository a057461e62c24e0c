use Rattle.upd_wire.proofs.Common.{None, Err, inl, inr, refl, Appends-nil, no_memory, answer_seen}
use Rattle.upd_wire.proofs.InputLemmas.{some_input}
use Rattle.upd_wire.proofs.AnswerLemmas.{fault_is}
use Rattle.upd_wire.proofs.http_exchange.serve_one.Goals as goal

pub returns-in_err-routes : goal.returns-in_err-routes
returns-in_err-routes g c =
    let (input, is) = some_input (g.R.Read.remaining c.args.reader.now) in (
      None,
      Err no_memory,
      refl,
      (fault_is c.from_residual.result no_memory c.from_residual.ensures.1, Appends-nil (g.W.Write.contents c.args.writer.now)),
      (input, is, inr (inr (refl, inr (inl refl)))),
    )

pub returns : goal.returns
returns g c =
    let (made, input, leads, is, exchanges, sends) = c.serve_request-sent.ensures in
    (made, answer_seen c.serve_request-sent.result.0.answer, leads, sends, (input, is, exchanges.answers))
