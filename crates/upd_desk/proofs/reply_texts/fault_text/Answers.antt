use Rattle.upd_desk.proofs.Common.{◌≡◌, false, ap, ◌∙◌, refl, view, compact_text, has_float, fault_value}
use Rattle.upd_desk.proofs.ReplyLemmas.{fault_written}
use Rattle.upd_desk.proofs.reply_texts.fault_text.Goals as goal

pub returns : goal.returns
returns c =
    let seen : view c.in_ok-value.value ≡ fault_value c.args.fault = c.in_ok-value.ensures in
    let no_float : has_float (view c.in_ok-value.value) ≡ false = rw seen refl in
    c.in_ok-text.ensures.text no_float ∙ ap compact_text seen ∙ fault_written _
