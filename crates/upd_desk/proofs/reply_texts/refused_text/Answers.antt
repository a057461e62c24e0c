use Rattle.upd_desk.proofs.Common.{◌≡◌, false, ap, ◌∙◌, refl, view, compact_text, has_float, refused_value}
use Rattle.upd_desk.proofs.ReplyLemmas.{refused_written}
use Rattle.upd_desk.proofs.reply_texts.refused_text.Goals as goal

pub returns : goal.returns
returns c site mode =
    let seen : view c.in_ok-value.value ≡ refused_value c.args.site.now c.args.number c.args.mode.now c.args.fault = c.in_ok-value.ensures in
    let no_float : has_float (view c.in_ok-value.value) ≡ false = rw seen refl in
    c.in_ok-text.ensures.text no_float ∙ ap compact_text seen ∙ refused_written _ _ _ _ site mode
