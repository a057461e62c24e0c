use Rattle.upd_wire.proofs.Common.{sym, ◌∙◌}
use Rattle.upd_wire.proofs.HeaderLemmas.{word_read}
use Rattle.upd_wire.proofs.header.read_word.Goals as goal

pub returns-then-is_word : goal.returns-then-is_word
returns-then-is_word c =
    word_read _ c.args.text.now c.from_utf8.result c.ok.result (sym c.is_word.ensures ∙ c.if-is_word.true) c.from_utf8.ensures.cases c.ok.ensures.value
