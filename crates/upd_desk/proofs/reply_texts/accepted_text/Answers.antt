use Rattle.upd_desk.proofs.Common.{◌≡◌, false, ap, ◌∙◌, refl, view, compact_text, has_float, accepted_value}
use Rattle.upd_desk.proofs.ReplyLemmas.{accepted_written, all_utf8, no_float_items, utf8}
use Rattle.upd_desk.proofs.reply_texts.accepted_text.Goals as goal

pub returns : goal.returns
returns c site mode idents file =
    let seen : view c.in_ok-value.value
    ≡ accepted_value c.args.site.now c.args.number c.args.mode.now c.args.idents.now c.args.file.now c.args.lines
    = c.in_ok-value.ensures (all_utf8 _ idents) (utf8 _ file) in
    let no_float : has_float (view c.in_ok-value.value) ≡ false = rw (seen, no_float_items c.args.idents.now) refl in
    c.in_ok-text.ensures.text no_float ∙ ap compact_text seen
    ∙ accepted_written c.args.site.now c.args.mode.now c.args.number c.args.idents.now c.args.file.now c.args.lines site mode idents file
