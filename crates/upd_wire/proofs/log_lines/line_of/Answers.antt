use Rattle.upd_wire.proofs.Common.{◌≡◌, ℕ, List, ◌∷◌, ◌++◌, append_assoc, ap, ◌∙◌, served_view, piece}
use Rattle.std.specs.Prelude.{codes, decimal}
use Rattle.percent_encoding.specs.Iter.{encoded_text}
use Rattle.upd_wire.specs.LogLines.{field, number_of, outcome, site_of, status_of}
use Rattle.upd_wire.proofs.LineLemmas.{text_written}
use Rattle.upd_wire.proofs.log_lines.line_of.Goals as goal

one_after_another : (a b c d e f rest : List ℕ)
    → (a ++ (32 ∷ (b ++ (32 ∷ (c ++ (32 ∷ (d ++ (32 ∷ (e ++ (32 ∷ f)))))))))) ++ rest
    ≡ a ++ (32 ∷ (b ++ (32 ∷ (c ++ (32 ∷ (d ++ (32 ∷ (e ++ (32 ∷ (f ++ rest))))))))))
one_after_another a b c d e f rest = simp append_assoc

pub returns-in-Ok : goal.returns-in-Ok
returns-in-Ok c =
    let s = served_view c.args.served.now in
    let e = s.exchange in
    let method : encoded_text c.field-method.result ≡ field (piece 32 0 e.head) =
    c.field-method.ensures ∙ ap field (c.piece.ensures ∙ ap (piece 32 0) c.deref.ensures.value) in
    let target : encoded_text c.field-target.result ≡ field (piece 32 1 e.head) =
    c.field-target.ensures ∙ ap field (c.piece-2.ensures ∙ ap (piece 32 1) c.deref-2.ensures.value) in
    let site : encoded_text c.field-site.result ≡ field (site_of e.asked) = c.field-site.ensures ∙ ap field c.site_of.ensures in
    let number : encoded_text c.field-number.result ≡ field (number_of e.asked) = c.field-number.ensures ∙ ap field c.number_of.ensures in
    let status : encoded_text c.field-status.result ≡ field (status_of e.answer) = c.field-status.ensures ∙ ap field c.status_of.ensures in
    let word : encoded_text c.field-outcome.result ≡ field (outcome e) = c.field-outcome.ensures ∙ ap field c.outcome.ensures in
    text_written c.new-line.result _ c.writeln.new.self c.new-line.ensures.intact c.in-Ok.ensures.writes
    ∙ rw (c.new-line.ensures.text, method, target, site, number, status, word)
    (ap (λ l. codes "upd: " ++ l) (one_after_another (field (piece 32 0 e.head)) (field (piece 32 1 e.head)) (field (site_of e.asked))
    (field (number_of e.asked)) (field (status_of e.answer)) (field (outcome e))
    (32 ∷ (decimal s.got ++ (32 ∷ (decimal s.sent ++ (32 ∷ (decimal s.millis ++ codes "ms\n"))))))))
