use Rattle.std.proofs.Common.{◌≡◌, ◌++◌, take, drop}
use Rattle.upd_text.specs.Lines.{ends_word, up_to, from_first}
use Rattle.upd_text.proofs.line.end_of_word.Given as goal

abbrev pub invariant-loop-index : goal.invariant-loop-index
invariant-loop-index l =
    (take l.index l.text ++ up_to ends_word (drop l.index l.text) ≡ up_to ends_word l.text) ×
    (from_first ends_word (drop l.index l.text) ≡ from_first ends_word l.text)
