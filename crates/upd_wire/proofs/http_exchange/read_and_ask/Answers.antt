use Rattle.upd_wire.proofs.AnswerLemmas.{read_says}
use Rattle.upd_wire.proofs.http_exchange.read_and_ask.Goals as goal

pub returns : goal.returns
returns g c =
    let (input, is, begins, read) = c.read_request-request.ensures in
    let (made, leads, asks, answers) = c.answer_request-answer.ensures in
    (made, input, leads, is, record { begins = begins; says = read_says input c.read_request-request.result read; asks = asks; answers = answers input read })
