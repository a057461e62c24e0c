use Rattle.upd_wire.proofs.Common.{◌++◌, Result, sym, ap₂, ◌∙◌, subst, Fault, answer_seen, Sends, Answer}
use Rattle.upd_wire.specs.Serving.{Puts}
use Rattle.upd_wire.proofs.http_exchange.Exchange.send.Goals as goal

pub returns-in-Ok : goal.returns-in-Ok
returns-in-Ok g c =
    let old = g.W.Write.contents c.args.writer.now in
    let new = g.W.Write.contents c.send.new.writer in
    let IsSent : Result Answer Fault → Type 0 = λ answer. Sends (answer_seen answer) c.send.result old new in
    subst IsSent (sym c.in-Ok.is) (subst (Puts c.send.result old new) (ap₂ (λ a b. a ++ b) (c.deref.ensures.value
    ∙ c.write_head.ensures) c.deref-in-Ok.ensures.value) c.send.ensures)
