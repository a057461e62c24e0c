use Rattle.std.proofs.Common.{◌≡◌, ◌++◌, take, drop}
use Rattle.upd_text.specs.Lines.{is_blank, up_to, from_first}
use Rattle.upd_text.proofs.line.first_blank.Given as goal

abbrev pub invariant-loop-index : goal.invariant-loop-index
invariant-loop-index l =
    (take l.index l.text ++ up_to is_blank (drop l.index l.text) ≡ up_to is_blank l.text) ×
    (from_first is_blank (drop l.index l.text) ≡ from_first is_blank l.text)
