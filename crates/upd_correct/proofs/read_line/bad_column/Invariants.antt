use Rattle.upd_correct.proofs.Common.{◌≡◌, ◌++◌, not, take, drop, is_allowed}
use Rattle.upd_text.specs.Lines.{up_to}
use Rattle.upd_correct.proofs.read_line.bad_column.Given as goal

abbrev pub invariant-loop-index : goal.invariant-loop-index
invariant-loop-index l =
    take l.index l.bytes ++ up_to (λ b. not (is_allowed b)) (drop l.index l.bytes) ≡ up_to (λ b. not (is_allowed b)) l.bytes
