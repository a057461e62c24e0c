use Rattle.std.proofs.Common.{◌≡◌, drop}
use Rattle.upd_text.specs.Lines.{after_blanks}
use Rattle.upd_text.proofs.line.after_blanks.Given as goal

abbrev pub invariant-loop-index : goal.invariant-loop-index
invariant-loop-index l = after_blanks (drop l.index l.text) ≡ after_blanks l.text
