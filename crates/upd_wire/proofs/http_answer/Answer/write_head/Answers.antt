use Rattle.upd_wire.proofs.Common.{[], ap, refl, ◌∙◌, ◌≡◌, arith, codes, decimal, length, option_map, vec_len}
use Rattle.upd_wire.specs.Routes.{method_of}
use Rattle.upd_wire.specs.Responses.{allow_line}
use Rattle.upd_wire.specs.Statuses.{media_text, status_line}
use Rattle.upd_wire.proofs.AnswerHeadLemmas.{of_eight, put_on}
use Rattle.upd_wire.proofs.http_answer.Answer.write_head.Goals as goal

pub returns : goal.returns
returns c =
    let answer = c.args.self.now in
    let whole : vec_len answer.body ≡ length answer.body.items = omega (arith, answer.body.ok.0) in
    let first = put_on _ _ _ [] (codes "HTTP/1.1 ") c.put.ensures.items c.requires.empty refl in
    let status = put_on _ _ _ _ (status_line answer.status) c.put_status.ensures.items first refl in
    let kind = put_on _ _ _ _ (codes "\r\nContent-Type: ") c.put-2.ensures.items status refl in
    let media = put_on _ _ _ _ (media_text answer.media) c.put-3.ensures.items kind (c.as_bytes.ensures.value ∙ c.text.ensures.value) in
    let size = put_on _ _ _ _ (codes "\r\nContent-Length: ") c.put-4.ensures.items media refl in
    let number = put_on _ _ _ _ (decimal (length answer.body.items)) c.put-5.ensures.items size (c.as_bytes-2.ensures.value ∙ (c.format.ensures.text
    ∙ ap decimal (c.len.ensures ∙ whole))) in
    let allow = put_on _ _ _ _ (allow_line (option_map method_of answer.allow)) c.put_allow.ensures.items number refl in
    let last = put_on _ _ _ _ (codes "\r\nConnection: close\r\n\r\n") c.put-6.ensures.items allow refl in
    last ∙ of_eight (codes "HTTP/1.1 ") (status_line answer.status) (codes "\r\nContent-Type: ") (media_text answer.media) (codes "\r\nContent-Length: ")
    (decimal (length answer.body.items)) (allow_line (option_map method_of answer.allow)) (codes "\r\nConnection: close\r\n\r\n")
