-- What a value of the code means.
use Rattle.std.specs.Prelude.{Result, option_map}
use Rattle.std.specs.Result.{result_map_both}
use Rattle.upd_text.specs.declared.fault.Fault.{Fault}
use Rattle.upd_wire.specs.Routes.{method_of}
use Rattle.upd_wire.specs.Responses.{Response}
use Rattle.upd_wire.specs.LogLines.{ExchangeView, ServedView, asked_of}
use Rattle.upd_wire.specs.declared.http_answer.Answer.{Answer}
use Rattle.upd_wire.specs.declared.http_exchange.Exchange.{Exchange}
use Rattle.upd_wire.specs.declared.log_lines.Served.{Served}

-- an answer
abbrev pub response : Answer → Response
response a = record { status = a.status; media = a.media; allow = option_map method_of a.allow; body = a.body.items }

-- an answer, or the fault in its place
abbrev pub answer_seen : Result Answer Fault → Result Response Fault
answer_seen result = result_map_both response (λ fault. fault) result

-- a request and its answer
abbrev pub exchange_view : Exchange → ExchangeView
exchange_view e = record { head = e.head.items; asked = asked_of e.request; answer = answer_seen e.answer }

-- a connection that has ended
abbrev pub served_view : Served → ServedView
served_view s = record { exchange = exchange_view s.exchange; got = s.got; sent = s.sent; millis = s.millis }
